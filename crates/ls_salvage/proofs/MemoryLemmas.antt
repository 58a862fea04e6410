-- The salvage of a recording in memory, and of one without damage.
use Rattle.std.proofs.Common.{false, ◌≡◌, inl, inr, ℕ, ◌<◌, ◌≤◌, List, [], ◌∷◌, ◌++◌, length, take, drop, Option, Some, Result, Ok, Err, MatchResult, IfOk, IfErr, refl, sym, ap, subst, ◌∙◌, arith}
use Rattle.std.proofs.lemmas.List.{length-append, length-take-le, take-append-drop}
use Rattle.ls_frame.specs.Picture.{Picture}
use Rattle.ls_frame.specs.View.Devices.{count_after}
use Rattle.ls_stream.specs.Grammar.{Spells}
use Rattle.ls_film.specs.Film.{most_frames, IsFilm}
use Rattle.ls_film.specs.Showing.{show}
use Rattle.ls_film.proofs.RecordedLemmas.{never_blamed}
use Rattle.ls_salvage.specs.declared.faults.SalvageFault.{SalvageFault}
use Rattle.ls_salvage.specs.declared.faults.SalvageFault.TheVariants.{Io, Output, NoMemory, NoEnd, TooMuch}
use Rattle.ls_salvage.specs.declared.gaps.Gap.{Gap}
use Rattle.ls_salvage.specs.declared.salvaging.Salvaged.{Salvaged}
use Rattle.ls_salvage.specs.Salvage.{Part, frame, gap, frames_of, gaps_of}
use Rattle.ls_salvage.specs.View.Salvaged.{AreParts}
use Rattle.ls_salvage.specs.View.Ends.{most_place, blames_reader}
use Rattle.ls_salvage.specs.View.Memory.{IsSalvageOf, IsOutOfMemory}
use Rattle.ls_film.specs.View.Codestreams.{BeginsWithNone}
use Rattle.ls_film.specs.View.Steps.{failed_by}
use Rattle.ls_salvage.specs.View.Runs.{Completes, StopsAfter, IsEndless, IsTooMuch, BeginsWithOne, Stops}
use Rattle.ls_salvage.proofs.SalvageLemmas.{some_bytes, one_front, whole_ones, undamaged, parts_length}

same_some : (one other : List Gap) → Some one ≡ Some other → one ≡ other
same_some one other same = cc

-- if the count of failed reads hasn't changed, no read failed
pub no_failed_read : (result : Result Salvaged SalvageFault) → 0 ≡ count_after (failed_by blames_reader result) 0 → IfErr result (λ fault. blames_reader fault ≡ false)
no_failed_read (Ok salvaged) same = tt
no_failed_read (Err fault) same = never_blamed (blames_reader fault) same

-- no bytes
pub no_bytes : (bytes : List ℕ) → length bytes ≡ 0 → bytes ≡ []
no_bytes [] is = refl
no_bytes (byte ∷ bytes) is = absurd (omega (arith, is))

-- they are codestreams of no frames
pub whole_none : (n : ℕ) (recording out : List ℕ) (gaps : List Gap) (frames : List Picture) → n ≡ 0 → recording ≡ [] → out ≡ [] → gaps ≡ [] → IsFilm Spells recording frames
    → (n ≡ length frames) × (n ≡ n) × (out ≡ show frames) × (gaps ≡ [])
whole_none n recording out gaps [] zero none no_text no_gaps film = (zero, refl, no_text, no_gaps)
whole_none n recording out gaps (f ∷ frames) zero none no_text no_gaps film =
    absurd (omega (arith, ap length none, ap length film.2, length-append film.0 film.1, some_bytes film.0 f film.3))

module _ (only : (one other rest : List ℕ) (f g : Picture) → Spells one f → Spells other g → other ≡ one ++ rest → rest ≡ [])
    (same : (bytes : List ℕ) (f g : Picture) → Spells bytes f → Spells bytes g → f ≡ g) where
  pub salvage_of : (recording start out final : List ℕ) (none gaps : List Gap) (read read' : Option (List ℕ)) (salvaged : Salvaged)
      → read ≡ Some recording → start ≡ [] → out ≡ final → none ≡ [] → Completes show (Some start) (Some out) (Some none) (Some gaps) read read' salvaged
      → IsSalvageOf recording final gaps salvaged
  salvage_of recording start out final none gaps read read' salvaged is empty same_out untold run =
      let whole = subst (λ r. Completes show (Some start) (Some out) (Some none) (Some gaps) r read' salvaged) is run in
      let all = (whole.gave refl).2 in
      let gaps_are : gaps ≡ gaps_of whole.parts = same_some gaps (none ++ gaps_of whole.parts) whole.handed_on.tells ∙ ap (λ s. s ++ gaps_of whole.parts) untold in
      record {
        parts = whole.parts;
        salvage = all;
        shown = sym same_out ∙ whole.handed_on.wrote ∙ ap (λ s. s ++ show (frames_of whole.parts)) empty;
        gaps_are = gaps_are;
        frame_count = whole.frames;
        gap_count = whole.gaps ∙ sym (ap length gaps_are);
        each_is_shown = λ before front rest f split spells. whole_ones only same recording before front rest f whole.parts split spells all;
      }

  -- nothing has nothing to salvage
  pub salvage_of_none : (recording out : List ℕ) (gaps : List Gap) → recording ≡ [] → out ≡ [] → gaps ≡ [] → IsSalvageOf recording out gaps (record { frames = 0; gaps = 0 })
  salvage_of_none recording out gaps none no_text no_gaps = record {
    parts = [];
    salvage = none;
    shown = no_text;
    gaps_are = no_gaps;
    frame_count = refl;
    gap_count = sym (ap length no_gaps);
    each_is_shown = λ before front rest f split spells. whole_ones only same recording before front rest f [] split spells none;
  }

  -- ---- no damage

  -- the frames of a film are those of the parts that were read, and then those of what is left
  film_parts : (bytes rest : List ℕ) (frames : List Picture) (parts : List Part) → IsFilm Spells bytes frames → AreParts bytes parts rest
      → (more : List Picture) × (frames ≡ frames_of parts ++ more) × IsFilm Spells rest more
  film_parts bytes rest frames [] film are = (frames, refl, subst (λ s. IsFilm Spells s frames) are film)
  film_parts bytes rest [] (frame size g ∷ parts) film are =
      absurd (omega (arith, ap length film, are.0, length-take-le size bytes are.0, some_bytes (take size bytes) g are.1))
  film_parts bytes rest [] (gap size fault ∷ parts) film are = absurd (omega (arith, ap length film, are.1.none.some))
  film_parts bytes rest (f ∷ frames) (frame size g ∷ parts) film are =
      let alike = one_front only same film.0 film.1 (take size bytes) (drop size bytes) f g (sym film.2 ∙ sym (take-append-drop size bytes)) film.3 are.1 in
      let next = film_parts (drop size bytes) rest frames parts (subst (λ s. IsFilm Spells s frames) alike.1 film.4) are.2 in
      (next.0, ap (λ h. h ∷ frames) alike.0 ∙ ap (λ s. g ∷ s) next.1, next.2)
  film_parts bytes rest (f ∷ frames) (gap size fault ∷ parts) film are = absurd (are.1.none.none film.0 film.1 f film.2 film.3)

  -- if a film isn't at its end, what is left of it begins with a codestream
  no_more : (rest : List ℕ) (more : List Picture) → IsFilm Spells rest more → BeginsWithNone rest → ⊥
  no_more rest [] film none = omega (arith, ap length film, none.some)
  no_more rest (f ∷ more) film none = none.none film.0 film.1 f film.2 film.3

  one_left : (rest : List ℕ) (more : List Picture) → IsFilm Spells rest more → BeginsWithOne rest → 0 < length more
  one_left rest [] film one = absurd (omega (arith, ap length film, ap length one.3, length-append one.0 one.1, some_bytes one.0 one.2 one.4))
  one_left rest (f ∷ more) film one = omega arith

  enough : (recording rest : List ℕ) (frames : List Picture) (parts : List Part) → length frames ≤ most_frames → length recording < most_place → IsFilm Spells recording frames
      → AreParts recording parts rest → IsTooMuch parts rest → ⊥
  enough recording rest frames parts few short film are (inl one) =
      let more = film_parts recording rest frames parts film are in
      omega (arith, few, one.0, ap length more.1, length-append (frames_of parts) more.0, one_left rest more.0 more.2 one.1)
  enough recording rest frames parts few short film are (inr (inl far)) = omega (arith, short, far, parts_length recording rest parts are)
  enough recording rest frames parts few short film are (inr (inr none)) = let more = film_parts recording rest frames parts film are in no_more rest more.0 more.2 none.0

  module _ (recording final : List ℕ) (gaps : List Gap) (frames : List Picture) (few : length frames ≤ most_frames) (short : length recording < most_place)
      (film : IsFilm Spells recording frames) where
    shows_all : (salvaged : Salvaged) → IsSalvageOf recording final gaps salvaged
        → (salvaged.frames ≡ length frames) × (salvaged.gaps ≡ 0) × (final ≡ show frames) × (gaps ≡ [])
    shows_all salvaged run =
        let whole = undamaged only same recording frames run.parts 0 0 film run.salvage in
        let none = run.gaps_are ∙ whole.1 in
        (run.frame_count ∙ ap length whole.0, run.gap_count ∙ ap length none, run.shown ∙ ap show whole.0, none)

    refused : (written out : Option (List ℕ)) (told told' : Option (List Gap)) (read : Option (List ℕ)) (fault : SalvageFault) → read ≡ Some recording
        → 0 ≡ count_after (blames_reader fault) 0 → Stops show written out told told' read fault → IsOutOfMemory fault
    refused written out told told' read (Io frames') is reads stops = absurd (omega arith)
    refused written out told told' read (Output bytes) is reads stops = tt
    refused written out told told' read NoMemory is reads stops = tt
    refused written out told told' read NoEnd is reads stops =
        let here = subst (λ r. StopsAfter show written out told told' r IsEndless) is stops in
        let after = here.begins refl in
        let more = film_parts recording after.0 frames here.parts film after.1 in
        absurd (no_more after.0 more.0 more.2 after.2.0)
    refused written out told told' read TooMuch is reads stops =
        let here = subst (λ r. StopsAfter show written out told told' r IsTooMuch) is stops in
        let after = here.begins refl in
        absurd (enough recording after.0 frames here.parts few short film after.1 after.2)

    pub salvaged_whole : (result : Result Salvaged SalvageFault) (written out : Option (List ℕ)) (told told' : Option (List Gap)) (read : Option (List ℕ)) → read ≡ Some recording
        → 0 ≡ count_after (failed_by blames_reader result) 0 → IfOk result (IsSalvageOf recording final gaps) → IfErr result (Stops show written out told told' read)
        → MatchResult result (λ salvaged. (salvaged.frames ≡ length frames) × (salvaged.gaps ≡ 0) × (final ≡ show frames) × (gaps ≡ [])) IsOutOfMemory
    salvaged_whole (Ok salvaged) written out told told' read is reads run stops = shows_all salvaged run
    salvaged_whole (Err fault) written out told told' read is reads run stops = refused written out told told' read fault is reads stops
