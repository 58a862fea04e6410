-- Films that are recorded and played back, one after the other.
use Rattle.std.proofs.Common.{◌≡◌, inl, inr, ℕ, ◌<◌, ◌≤◌, List, [], ◌∷◌, ◌++◌, length, Option, Some, refl, sym, ap, subst, ◌∙◌, arith, append-nil}
use Rattle.std.proofs.lemmas.List.{length-map, length-append}
use Rattle.std.proofs.lemmas.Option.{same_Some}
use Rattle.std.proofs.lemmas.Result.{MatchResult-weaker}
use Rattle.std.specs.Prelude.{None, Result, Ok, MatchResult, take, drop}
use Rattle.std.proofs.lemmas.List.{take-append-drop, take-map}
use Rattle.ls_film.specs.Film.{most_frames}
use Rattle.ls_recorder.specs.declared.lane.LaneFault.{LaneFault}
use Rattle.ls_recorder.specs.declared.lane.LaneFault.TheVariants.{Input, Output, NoMemory, Misfit, Lost, NotStarted, TooMany, Tuning as BadTuning}
use Rattle.std.specs.List.{AllByRecursion, AllZip}
use Rattle.std.specs.Borrow.{Bor}
use Rattle.ls_frame.specs.declared.tuning.Tuning.{Tuning}
use Rattle.ls_frame.specs.declared.presets.PresetFault.{PresetFault}
use Rattle.ls_frame.specs.Picture.{Picture}
use Rattle.ls_frame.specs.Parameters.{Parameters, IsLegal, default_parameters, preset_fault, unless_fault, explicit_parameters}
use Rattle.ls_frame.specs.Tuning.{tuned}
use Rattle.ls_frame.specs.declared.frame.Kind.{Kind}
use Rattle.ls_frame.specs.declared.frame.Kind.TheVariants.{Gray, Color}
use Rattle.ls_frame.specs.Netpbm.{magic, IsImageOf}
use Rattle.ls_film.specs.Film.{IsFilm}
use Rattle.ls_film.specs.Coding.{file, with_defaults, default_file}
use Rattle.ls_film.proofs.OneFilmLemmas.{one_film}
use Rattle.ls_film.specs.declared.playing.PlayFault.{PlayFault}
use Rattle.ls_recorder.specs.declared.recording.Track.{Track}
use Rattle.ls_roundtrip.specs.declared.round_trip.PlayedBack.{PlayedBack}
use Rattle.ls_pieces.specs.Orders.{Ordered}
use Rattle.ls_recorder.specs.View.Lanes.{with_tuning, AreTuned, tuned_file, Records, StopsLane, HasPut, AreOrdersOf}
use Rattle.ls_film.specs.View.Playing.{IsCodable, frames_of}
use Rattle.ls_recorder.specs.View.Recordings.{IsTrack, AreTracks}
use Rattle.ls_recorder.proofs.ListLemmas.{zip-through, zip-weaker}
use Rattle.ls_recorder.proofs.RecordingLemmas.{each-track}
use Rattle.ls_roundtrip.specs.View.RoundTrips.{by_default, ComesBack, StopsShort, ShowsFront, PlaysFront, CameOf, ComeBack, PlaysBack, IntoMemory, held_by, IsUnrecorded, IsPlayed}

-- ---- the bytes of a film determine its frames

some_magic : (kind : Kind) → 0 < length (magic kind)
some_magic Gray = omega arith
some_magic Color = omega arith

some_front : (front rest : List ℕ) → 0 < length front → 0 < length (front ++ rest)
some_front front rest some = omega (arith, length-append front rest)

some_image : (bytes : List ℕ) (f : Picture) → IsImageOf bytes f → 0 < length bytes
some_image bytes f image =
    rw image.whole (some_front _ _ (some_front _ _ (some_front _ _ (some_front _ _ (some_front _ _ (some_magic image.heading.kind))))))

module _ (only : (front rest : List ℕ) (f g : Picture) → IsImageOf front f → IsImageOf (front ++ rest) g → rest ≡ [])
    (same : (bytes : List ℕ) (f g : Picture) → IsImageOf bytes f → IsImageOf bytes g → f ≡ g) where
  one_netpbm_film : (film : List ℕ) (frames others : List Picture) → IsFilm IsImageOf film frames → IsFilm IsImageOf film others → others ≡ frames
  one_netpbm_film = one_film IsImageOf some_image (λ one other rest f g first second is. only one rest f g first (rw (sym is) second)) same

-- ---- tuned frames

tuned_frames : (tuning : Tuning) (frames : List Picture) → frames_of (with_tuning tuning frames) ≡ frames
tuned_frames tuning [] = refl
tuned_frames tuning (f ∷ frames) = ap (λ rest. f ∷ rest) (tuned_frames tuning frames)

tuned_maxval : (tuning : Tuning) (maxval : ℕ) → (tuned tuning maxval).maxval ≡ maxval
unfolding tuned
tuned_maxval tuning maxval = refl

no_fault : (o : Option PresetFault) (p : Parameters) → unless_fault o p ≡ Ok p → o ≡ None
no_fault None p is = refl
no_fault (Some fault) p is = let clash : ⊥ = cc in absurd clash

none_at_fault : (p : Parameters) → explicit_parameters p ≡ Ok p → preset_fault p ≡ None
unfolding explicit_parameters
none_at_fault p is = no_fault (preset_fault p) p is

tuned_codable : ((p : Parameters) → p.maxval ≤ 65535 → preset_fault p ≡ None → IsLegal p) → (tuning : Tuning) (bytes : List ℕ) (frames : List Picture) → IsFilm IsImageOf bytes frames
    → AreTuned tuning frames → AllByRecursion IsCodable (with_tuning tuning frames)
tuned_codable legal tuning bytes [] none given = tt
tuned_codable legal tuning bytes (f ∷ frames) film given =
    let maxval = tuned_maxval tuning f.maxval in (
      record {
        frame = film.3.frame;
        legal = legal (tuned tuning f.maxval) (omega (arith, maxval, film.3.frame.formed.maxval)) (none_at_fault (tuned tuning f.maxval) given.0.1);
        maxval = maxval;
      },
      tuned_codable legal tuning film.1 frames film.4 given.1,
    )

tuned_by_default : ((maxval : ℕ) → (default_parameters maxval).maxval ≡ maxval) → (maxval : ℕ) → tuned by_default maxval ≡ default_parameters maxval
unfolding tuned
tuned_by_default law maxval = let d = default_parameters maxval in let same = law maxval in
    λ i. record { maxval = sym same i; t1 = d.t1; t2 = d.t2; t3 = d.t3; reset = d.reset }

all_by_default : ((maxval : ℕ) → (default_parameters maxval).maxval ≡ maxval) → (frames : List Picture) → with_tuning by_default frames ≡ with_defaults frames
all_by_default law [] = refl
all_by_default law (f ∷ frames) =
    let here = tuned_by_default law f.maxval in
    let rest = all_by_default law frames in
    λ i. (f, here i) ∷ rest i

-- ---- one film

module _ (maxval : (maxval : ℕ) → (default_parameters maxval).maxval ≡ maxval) (legal : (p : Parameters) → p.maxval ≤ 65535 → preset_fault p ≡ None → IsLegal p)
    (only : (front rest : List ℕ) (f g : Picture) → IsImageOf front f → IsImageOf (front ++ rest) g → rest ≡ [])
    (same : (bytes : List ℕ) (f g : Picture) → IsImageOf bytes f → IsImageOf bytes g → f ≡ g) where
  whole_film : (bytes recording shown : List ℕ) (left : Option (List ℕ)) (tuning : Tuning) (items : List Ordered) (played : Result ℕ PlayFault) (n : ℕ)
      → Records tuning items (Some bytes) left (Some []) (Some recording) n → PlaysBack recording shown played → ComesBack bytes tuning recording shown played n
  whole_film bytes recording shown left tuning items played n records plays =
      let run = records.run in
      let film : IsFilm IsImageOf bytes run.frames = (run.gave refl).2 in
      let codable = tuned_codable legal tuning bytes run.frames film records.put.1 in
      let size : length (with_tuning tuning run.frames) ≡ length run.frames = length-map run.frames _ in
      let shows = plays (with_tuning tuning run.frames) (omega (arith, size, run.few)) codable run.wrote in
      record {
        frames = run.frames;
        count = run.count;
        film = film;
        recorded = run.wrote;
        coded = λ default alone m text.
            let others : text.frames ≡ run.frames = one_netpbm_film only same bytes run.frames text.frames film text.whole in
            run.wrote ∙ ap (λ t. tuned_file t run.frames) default ∙ ap file (all_by_default maxval run.frames) ∙ ap default_file (sym others) ∙ sym text.wrote;
        plays = rw (tuned_frames tuning run.frames, size ∙ run.count) at shows;
      }

  front_codable : (tuning : Tuning) (bytes : List ℕ) (frames more : List Picture) → IsFilm IsImageOf bytes (frames ++ more) → AreTuned tuning frames
      → AllByRecursion IsCodable (with_tuning tuning frames)
  front_codable tuning bytes [] more film given = tt
  front_codable tuning bytes (f ∷ frames) more film given =
      let maxval = tuned_maxval tuning f.maxval in (
        record {
          frame = film.3.frame;
          legal = legal (tuned tuning f.maxval) (omega (arith, maxval, film.3.frame.formed.maxval)) (none_at_fault (tuned tuning f.maxval) given.0.1);
          maxval = maxval;
        },
        front_codable tuning film.1 frames more film.4 given.1,
      )

  tuned_front : (tuning : Tuning) (frames more : List Picture) → AreTuned tuning (frames ++ more) → AreTuned tuning frames
  tuned_front tuning [] more given = tt
  tuned_front tuning (f ∷ frames) more given = (given.0, tuned_front tuning frames more given.1)

  shows : (recording shown : List ℕ) (played : Result ℕ PlayFault) (tuning : Tuning) (bytes : List ℕ) (frames more : List Picture) → IsFilm IsImageOf bytes (frames ++ more)
      → AreTuned tuning frames → length frames ≤ most_frames → recording ≡ tuned_file tuning frames → PlaysBack recording shown played → ShowsFront tuning recording shown played
  shows recording shown played tuning bytes frames more film given few wrote plays =
      let size : length (with_tuning tuning frames) ≡ length frames = length-map frames _ in
      let back = plays (with_tuning tuning frames) (omega (arith, size, few)) (front_codable tuning bytes frames more film given) wrote in
      record { frames = frames; recorded = wrote; plays = rw (tuned_frames tuning frames, size) at back }

  shows_some : (recording shown : List ℕ) (played : Result ℕ PlayFault) (tuning : Tuning) (bytes : List ℕ) (frames : List Picture) (items : List Ordered) (count : ℕ)
      → IsFilm IsImageOf bytes frames → AreOrdersOf tuning frames items → length frames ≤ most_frames → recording ≡ file (take count items) → PlaysBack recording shown played
      → ShowsFront tuning recording shown played
  shows_some recording shown played tuning bytes frames items count film orders few wrote plays =
      let parts : take count frames ++ drop count frames ≡ frames = take-append-drop count frames in
      let taken : take count items ≡ with_tuning tuning (take count frames) = ap (take count) orders.0 ∙ take-map (λ (f : Picture). (f, tuned tuning f.maxval)) count frames in
      shows recording shown played tuning bytes (take count frames) (drop count frames) (subst (IsFilm IsImageOf bytes) (sym parts) film)
      (tuned_front tuning (take count frames) (drop count frames) (subst (AreTuned tuning) (sym parts) orders.1))
      (omega (arith, few, ap length parts, length-append (take count frames) (drop count frames))) (wrote ∙ ap file taken) plays

  plays_put : (bytes recording shown : List ℕ) (left : Option (List ℕ)) (tuning : Tuning) (items : List Ordered) (played : Result ℕ PlayFault) (count : ℕ)
      → HasPut tuning items (Some bytes) left (Some []) (Some recording) → recording ≡ file (take count items) → PlaysBack recording shown played → ShowsFront tuning recording shown played
  plays_put bytes recording shown left tuning items played count put wrote plays =
      let begins = put.begins refl in
      shows_some recording shown played tuning begins.0 put.frames items count begins.3 put.put put.few wrote plays

  stopped_film : (bytes recording shown : List ℕ) (left : Option (List ℕ)) (tuning : Tuning) (items : List Ordered) (played : Result ℕ PlayFault) (fault : LaneFault)
      → StopsLane tuning items (Some bytes) left (Some []) (Some recording) fault → PlaysBack recording shown played → PlaysFront tuning recording shown played fault
  stopped_film bytes recording shown left tuning items played (Input m fault) stops plays =
      let begins = stops.run.begins refl in
      shows recording shown played tuning begins.0 stops.run.frames [] (rw (append-nil stops.run.frames) begins.3) stops.put.1 stops.run.few stops.run.wrote plays
  stopped_film bytes recording shown left tuning items played (Output n) stops plays = tt
  stopped_film bytes recording shown left tuning items played NoMemory stops plays = plays_put bytes recording shown left tuning items played stops.1.count stops.0 stops.1.wrote plays
  stopped_film bytes recording shown left tuning items played (Misfit misfit) stops plays = plays_put bytes recording shown left tuning items played stops.1.count stops.0 stops.1.wrote plays
  stopped_film bytes recording shown left tuning items played Lost stops plays = plays_put bytes recording shown left tuning items played stops.1.count stops.0 stops.1.wrote plays
  stopped_film bytes recording shown left tuning items played NotStarted stops plays = absurd stops
  stopped_film bytes recording shown left tuning items played TooMany stops plays =
      let gave = stops.run.gave refl in
      shows recording shown played tuning gave.1 stops.run.frames (stops.run.last ∷ []) gave.3 stops.put.1 (omega (arith, stops.run.count)) stops.run.wrote plays
  stopped_film bytes recording shown left tuning items played (BadTuning m fault) stops plays =
      let gave = stops.gave refl in
      shows recording shown played tuning gave.1 stops.frames (stops.last ∷ []) gave.3 stops.put.1 (omega (arith, stops.few)) stops.wrote plays

  unstarted : (recording shown : List ℕ) (tuning : Tuning) (played : Result ℕ PlayFault) → recording ≡ [] → PlaysBack recording shown played → ShowsFront tuning recording shown played
  unstarted recording shown tuning played none plays = shows recording shown played tuning [] [] [] refl tt (omega arith) none plays

  module _ (failed_reads : Bor (List ℕ) → ℕ) (failed_writes : IntoMemory → ℕ) where
    one_back : (film : Bor (List ℕ) × Tuning) (lane : Bor (List ℕ) × IntoMemory × Tuning) (count : ℕ) (track : Track (Bor (List ℕ)) IntoMemory) (r : PlayedBack) → IsUnrecorded film lane
        → IsTrack (λ b. Some b.now) failed_reads held_by failed_writes lane count track → IsPlayed track r → CameOf film r
    one_back film lane count track r fresh done played =
        let bytes = film.0.now in
        let back = ComesBack bytes film.1 r.recording.items r.shown.items r.played in
        let short = (λ (fault : LaneFault). StopsShort bytes film.1 r.recording.items fault × PlaysFront film.1 r.recording.items r.shown.items r.played fault) in (
          subst (λ x. MatchResult x back short) (sym played.recorded)
              (elim done.did [
                | inl refused ↦ subst (λ x. MatchResult x back short) (sym refused.0)
                    (let none = same_Some _ _ (sym played.recording ∙ ap held_by refused.3 ∙ fresh.empty) in
                    (inl (refl, none), unstarted r.recording.items r.shown.items film.1 r.played none played.plays.recorded))
                | inr ran ↦ MatchResult-weaker track.result
                    (rw (ap (λ (b : Bor (List ℕ)). b.now) fresh.reader, fresh.tuning, fresh.empty, played.recording) at ran)
                    (λ n records. whole_film bytes r.recording.items r.shown.items _ film.1 done.items r.played n records played.plays.recorded)
                    (λ fault stops. (inr (done.items, _, stops), stopped_film bytes r.recording.items r.shown.items _ film.1 done.items r.played fault stops played.plays.recorded))
              ]),
          played.plays,
        )

    pub all_back : (films : List (Bor (List ℕ) × Tuning)) (lanes : List (Bor (List ℕ) × IntoMemory × Tuning)) (counts : List ℕ) (s : ℕ) (tracks : List (Track (Bor (List ℕ)) IntoMemory)) (played_back : List PlayedBack)
        → AllZip IsUnrecorded films lanes → AreTracks (λ b. Some b.now) failed_reads held_by failed_writes counts s lanes tracks → AllZip IsPlayed tracks played_back → ComeBack films played_back
    all_back films lanes counts s tracks played_back fresh done played =
        zip-weaker _ _ films played_back (λ film r all. one_back film all.1.0 all.1.2.0 all.0 r all.1.1 all.1.2.1 all.2)
        (zip-through _ _ films tracks played_back (zip-through _ _ films lanes tracks fresh (each-track (λ b. Some b.now) failed_reads held_by failed_writes counts s lanes tracks done)) played)
