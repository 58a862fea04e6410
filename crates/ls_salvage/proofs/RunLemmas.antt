-- A salvage, part by part, and why it stops.
use Rattle.std.proofs.Common.{◌≡◌, inl, inr, ℕ, ◌+◌, ◌<◌, ◌≤◌, List, [], ◌∷◌, ◌++◌, length, take, drop, Option, None, Some, refl, sym, ap, subst, ◌∙◌, arith, append_assoc, append-nil}
use Rattle.std.specs.Io.KnownBytes.{Appends}
use Rattle.std.specs.List.{AllByRecursion}
use Rattle.std.proofs.KnownBytes.{Appends-nil, Appends-trans}
use Rattle.std.proofs.Math.Seq.{take-append-add}
use Rattle.std.proofs.lemmas.List.{length-append, length_push, take-append-drop}
use Rattle.ls_frame.specs.Picture.{Picture}
use Rattle.ls_frame.specs.View.Known.{Tells, WasAtEnd, HadBytes, known}
use Rattle.ls_film.specs.View.Memory.{HasBytes}
use Rattle.ls_stream.specs.declared.faults.StreamFault.{StreamFault}
use Rattle.ls_salvage.specs.declared.faults.ReadFault.{ReadFault}
use Rattle.ls_salvage.specs.declared.faults.ReadFault.TheVariants as read_fault
use Rattle.ls_salvage.specs.declared.faults.SalvageFault.{SalvageFault}
use Rattle.ls_salvage.specs.declared.faults.SalvageFault.TheVariants.{Io, Output, NoMemory, NoEnd, TooMuch}
use Rattle.ls_salvage.specs.declared.gaps.Gap.{Gap}
use Rattle.ls_salvage.specs.declared.salvaging.Progress.{Progress}
use Rattle.ls_salvage.specs.Salvage.{Part, frame, gap, size_of, bytes_of, frames_of, gaps_of}
use Rattle.ls_salvage.specs.View.Salvaged.{AreParts}
use Rattle.ls_salvage.specs.View.Ends.{most_place, salvage_fault}
use Rattle.ls_salvage.specs.View.Parts.{GavePart, IsLawful, HasNoEnd, HasLongGap}
use Rattle.ls_salvage.specs.View.Telling.{TellsMore}
use Rattle.ls_salvage.specs.View.Runs.{Completes, HasRun, StopsAfter, Anything, HasMore, BeginsWithOne, IsEndless, IsTooMuch, Stops, IsSmall, no_progress, after_frame, after_gap, HandsOn, StopsHandingOn}
use Rattle.ls_salvage.proofs.SalvageLemmas.{some_bytes, parts_then, bytes_of-append, frames_of-append, gaps_after-append}

-- ---- gaps that were reported

TellsMore-nil : (a : Option (List Gap)) → TellsMore a a []
TellsMore-nil None = refl
TellsMore-nil (Some x) = ap (λ s. Some s) (sym (append-nil x))

TellsMore-trans : (a b c : Option (List Gap)) (first then : List Gap) → TellsMore a b first → TellsMore b c then → TellsMore a c (first ++ then)
TellsMore-trans None b c first then p q = subst (λ m. TellsMore m c then) p q
TellsMore-trans (Some x) b c first then p q =
    let after : c ≡ Some ((x ++ first) ++ then) = subst (λ m. TellsMore m c then) p q in
    after ∙ ap (λ s. Some s) (append_assoc x first then)

-- ---- one more part at the end

all_more : {A : Type 0} (P : A → Type 0) (xs : List A) (x : A) → AllByRecursion P xs → P x → AllByRecursion P (xs ++ x ∷ [])
all_more P [] x all last = (last, _)
all_more P (y ∷ ys) x all last = (all.0, all_more P ys x all.1 last)

gap_more : (parts : List Part) (frames place count : ℕ) (fault : StreamFault) → frames ≡ length (frames_of parts) → place ≡ bytes_of parts
    → gaps_of (parts ++ gap count fault ∷ []) ≡ gaps_of parts ++ record { frame = frames; place = place; count = count; fault = fault } ∷ []
gap_more parts frames place count fault is there =
    let n : 0 + length (frames_of parts) ≡ frames = omega (arith, is) in
    let at : 0 + bytes_of parts ≡ place = omega (arith, there) in
    gaps_after-append 0 0 parts (gap count fault ∷ [])
    ∙ ap (λ k. gaps_of parts ++ record { frame = k; place = 0 + bytes_of parts; count = count; fault = fault } ∷ []) n
    ∙ ap (λ k. gaps_of parts ++ record { frame = frames; place = k; count = count; fault = fault } ∷ []) at

frame_more : (parts : List Part) (count : ℕ) (f : Picture) → gaps_of (parts ++ frame count f ∷ []) ≡ gaps_of parts
frame_more parts count f = gaps_after-append 0 0 parts (frame count f ∷ []) ∙ append-nil (gaps_of parts)

gave_more : (read mid new : Option (List ℕ)) (parts : List Part) (part : Part) → (Tells read → Tells mid × AreParts (known read) parts (known mid)) → GavePart mid new part
    → Tells read → Tells new × AreParts (known read) (parts ++ part ∷ []) (known new)
gave_more read mid new parts part gave next = λ told.
    let first = gave told in
    let last = next first.0 in
    (last.0, parts_then (known read) (known mid) (known new) parts (part ∷ []) first.1 last.1)

bytes_more : (parts : List Part) (part : Part) (place : ℕ) → place ≡ bytes_of parts → place + size_of part ≡ bytes_of (parts ++ part ∷ [])
bytes_more parts part place is = omega (arith, is, bytes_of-append parts (part ∷ []))

module _ (text : List Picture → List ℕ) (read : Option (List ℕ)) (written : Option (List ℕ)) (told : Option (List Gap)) where
  pub run_none : text [] ≡ [] → HasRun text written written told told read read no_progress
  run_none none = record {
    parts = [];
    gave = λ tells. (tells, refl);
    handed_on = record { lawful = tt; wrote = subst (Appends written written) (sym none) (Appends-nil written); tells = TellsMore-nil told };
    frames = refl;
    gaps = refl;
    place = refl;
    bytes = sym (ap length none);
  }

  module _ (mid new : Option (List ℕ)) (midway out : Option (List ℕ)) (half full : Option (List Gap)) (before : Progress) where
    pub run_more : (part : Part) (after : Progress) → HasRun text written midway told half read mid before → GavePart mid new part → IsLawful part
        → HandsOn text midway out half full before part after → HasRun text written out told full read new after
    run_more (frame count f) after run gave lawful hands =
        let parts = run.parts in
        let frames : frames_of (parts ++ frame count f ∷ []) ≡ frames_of parts ++ f ∷ [] = frames_of-append parts (frame count f ∷ []) in
        let chunk = hands.0 in
        let grows : text (frames_of (parts ++ frame count f ∷ [])) ≡ text (frames_of parts) ++ chunk = ap text frames ∙ hands.1 (frames_of parts) (sym run.frames) in
        let kept : full ≡ half = hands.4 in
        let is : after ≡ after_frame before count (length chunk) = hands.6 in
        rw is (record {
          parts = parts ++ frame count f ∷ [];
          gave = gave_more read mid new parts (frame count f) run.gave gave;
          handed_on = record {
            lawful = all_more IsLawful parts (frame count f) run.handed_on.lawful lawful;
            wrote = subst (Appends written out) (sym grows) (Appends-trans written midway out (text (frames_of parts)) chunk run.handed_on.wrote hands.3);
            tells = subst (TellsMore told full) (sym (frame_more parts count f)) (subst (λ s. TellsMore told s (gaps_of parts)) (sym kept) run.handed_on.tells);
          };
          frames = omega (arith, run.frames, ap length frames, length_push (frames_of parts) f);
          gaps = run.gaps ∙ sym (ap length (frame_more parts count f));
          place = bytes_more parts (frame count f) before.place run.place;
          bytes = omega (arith, run.bytes, ap length grows, length-append (text (frames_of parts)) chunk);
        })
    run_more (gap count fault) after run gave lawful hands =
        let parts = run.parts in
        let frames : frames_of (parts ++ gap count fault ∷ []) ≡ frames_of parts = frames_of-append parts (gap count fault ∷ []) ∙ append-nil (frames_of parts) in
        let more = gap_more parts before.frames before.place count fault run.frames run.place in
        let kept : out ≡ midway = hands.0 in
        let is : after ≡ after_gap before count = hands.2 in
        rw is (record {
          parts = parts ++ gap count fault ∷ [];
          gave = gave_more read mid new parts (gap count fault) run.gave gave;
          handed_on = record {
            lawful = all_more IsLawful parts (gap count fault) run.handed_on.lawful lawful;
            wrote = subst (Appends written out) (sym (ap text frames)) (subst (λ s. Appends written s (text (frames_of parts))) (sym kept) run.handed_on.wrote);
            tells = subst (TellsMore told full) (sym more) (TellsMore-trans told half full (gaps_of parts) _ run.handed_on.tells hands.1);
          };
          frames = run.frames ∙ sym (ap length frames);
          gaps = omega (arith, run.gaps, ap length more, length_push (gaps_of parts) (record { frame = before.frames; place = before.place; count = count; fault = fault }));
          place = bytes_more parts (gap count fault) before.place run.place;
          bytes = run.bytes ∙ sym (ap (λ s. length (text s)) frames);
        })

  module _ (mid : Option (List ℕ)) (midway : Option (List ℕ)) (half : Option (List Gap)) (before : Progress) (run : HasRun text written midway told half read mid before) where
    -- the end of the input
    pub run_completes : (new : Option (List ℕ)) → WasAtEnd mid new → Completes text written midway told half read new (record { frames = before.frames; gaps = before.gaps })
    run_completes new end = record {
      parts = run.parts;
      gave = λ tells. let first = run.gave tells in let last = end first.0 in (last.0, last.2, subst (AreParts (known read) run.parts) last.1 first.1);
      handed_on = run.handed_on;
      frames = run.frames;
      gaps = run.gaps;
    }

    -- it stops after these parts
    stops_here : (P : List Part → List ℕ → Type 0) → (Tells mid → P run.parts (known mid)) → StopsAfter text written midway told half read P
    stops_here P follows = record {
      parts = run.parts;
      begins = λ tells. let first = run.gave tells in (known mid, first.1, follows first.0);
      handed_on = run.handed_on;
    }

    pub stops_reading : (fault : ReadFault) → (fault ≡ read_fault.NoEnd → Tells mid → HasNoEnd (known mid)) → (fault ≡ read_fault.TooMuch → Tells mid → HasLongGap (known mid))
        → (fault ≡ read_fault.NoMemory → HadBytes mid)
        → Stops text written midway told half read (salvage_fault before.frames fault)
    unfolding stops_here
    stops_reading read_fault.Io endless much memory = (stops_here Anything (λ tells. tt), sym run.frames)
    stops_reading read_fault.NoMemory endless much memory = stops_here HasMore (λ tells. memory refl tells)
    stops_reading read_fault.NoEnd endless much memory = stops_here IsEndless (λ tells. endless refl tells)
    stops_reading read_fault.TooMuch endless much memory = stops_here IsTooMuch (λ tells. inr (inr (much refl tells)))

    pub stops_far : most_place ≤ before.place → Stops text written midway told half read TooMuch
    stops_far far = stops_here IsTooMuch (λ tells. inr (inl (omega (arith, far, run.place))))

    -- it stops in a part
    module _ (new : Option (List ℕ)) (out : Option (List ℕ)) (full : Option (List Gap)) where
      stops_kept : (P : List Part → List ℕ → Type 0) → out ≡ midway → full ≡ half → (Tells mid → P run.parts (known mid)) → StopsAfter text written out told full read P
      stops_kept P is same follows = rw (is, same) (stops_here P follows)

      one_more : (count : ℕ) (f : Picture) → GavePart mid new (frame count f) → Tells mid → BeginsWithOne (known mid)
      one_more count f gave tells = let next = (gave tells).1 in (take count (known mid), _, f, sym (take-append-drop count (known mid)), next.1)

      -- a part has bytes
      some_part : (part : Part) → GavePart mid new part → Tells mid → HasBytes (known mid)
      some_part (frame count f) gave tells =
          let next = (gave tells).1 in
          omega (arith, some_bytes (take count (known mid)) f next.1, length-append (take count (known mid)) (drop count (known mid)), ap length (take-append-drop count (known mid)))
      some_part (gap count fault) gave tells = (gave tells).1.1.none.some

      pub stops_handing_on : (part : Part) (fault : SalvageFault) → GavePart mid new part → IsLawful part → StopsHandingOn text midway out half full before part fault
          → Stops text written out told full read fault
      stops_handing_on part (Io frames) gave lawful stops = absurd stops
      stops_handing_on (frame count f) (Output bytes) gave lawful stops =
          let parts = run.parts in
          let chunk = stops.0 in
          let here = stops.2 in
          let grows : text (frames_of parts ++ f ∷ []) ≡ text (frames_of parts) ++ chunk = stops.1 (frames_of parts) (sym run.frames) in
          let size : length (text (frames_of parts ++ f ∷ [])) ≡ before.written + length chunk = omega (arith, ap length grows, length-append (text (frames_of parts)) chunk, run.bytes) in
          let at : bytes ≡ length (text (frames_of parts)) + here = omega (arith, stops.3, run.bytes) in
          let front : take bytes (text (frames_of parts ++ f ∷ [])) ≡ text (frames_of parts) ++ take here chunk =
          ap (take bytes) grows ∙ ap (λ k. take k (text (frames_of parts) ++ chunk)) at ∙ take-append-add (text (frames_of parts)) chunk here in
          record {
            parts = parts;
            count = count;
            last = f;
            begins = λ tells. let all = gave_more read mid new parts (frame count f) run.gave gave tells in (known new, all.1, tt);
            lawful = all_more IsLawful parts (frame count f) run.handed_on.lawful lawful;
            later = omega (arith, at);
            part = omega (arith, size, stops.3, stops.4);
            wrote = subst (Appends written out) (sym front) (Appends-trans written midway out (text (frames_of parts)) (take here chunk) run.handed_on.wrote stops.5);
            tells = subst (λ s. TellsMore told s (gaps_of parts)) (sym stops.6) run.handed_on.tells;
          }
      stops_handing_on (gap count cause) (Output bytes) gave lawful stops = absurd stops
      stops_handing_on part NoMemory gave lawful stops = stops_kept HasMore stops.0 stops.1 (some_part part gave)
      stops_handing_on part NoEnd gave lawful stops = absurd stops
      stops_handing_on (frame count f) TooMuch gave lawful stops =
          stops_kept IsTooMuch stops.0 stops.1 (λ tells. inl (sym run.frames ∙ stops.2, one_more count f gave tells))
      stops_handing_on (gap count cause) TooMuch gave lawful stops = absurd stops

-- ---- counts

pub small_none : IsSmall no_progress
small_none = record { frames = omega arith; gaps = omega arith; bytes = omega arith }

module _ (text : List Picture → List ℕ) (midway out : Option (List ℕ)) (half full : Option (List Gap)) (before after : Progress) where
  pub small_more : (part : Part) → IsSmall before → 0 < size_of part → HandsOn text midway out half full before part after → IsSmall after
  small_more (frame count f) small some hands = rw (hands.6) (record {
    frames = omega (arith, hands.5);
    gaps = omega (arith, small.gaps);
    bytes = omega (arith, small.bytes, hands.2);
  })
  small_more (gap count fault) small some hands = rw (hands.2) (record {
    frames = small.frames;
    gaps = omega (arith, small.gaps, some);
    bytes = small.bytes;
  })

  pub place_more : (part : Part) → HandsOn text midway out half full before part after → after.place ≡ before.place + size_of part
  place_more (frame count f) hands = ap (λ (p : Progress). p.place) hands.6
  place_more (gap count fault) hands = ap (λ (p : Progress). p.place) hands.2
