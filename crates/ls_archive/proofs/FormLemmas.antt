-- The index of a recording of frames: each entry says its frame's form.
use Rattle.std.proofs.Common.{◌≡◌, ℕ, suc, ◌+◌, ◌-◌, ◌≤◌, Bool, true, false, List, [], ◌∷◌, ◌++◌, length, take, inl, inr, Option, Some, Result, Ok, Err, IfOk, IfErr, MatchResult, refl, sym, ap, ◌∙◌, arith, append_assoc, append-nil, length-append}
use Rattle.std.proofs.Math.Seq.{take-append_seam}
use Rattle.std.proofs.lemmas.List.{length_push}
use Rattle.std.specs.List.{AllByRecursion, AllZip}
use Rattle.ls_frame.specs.Picture.{Picture}
use Rattle.ls_frame.specs.View.Devices.{count_after}
use Rattle.ls_frame.specs.View.Known.{known}
use Rattle.ls_stream.specs.Grammar.{Spells, most_bytes}
use Rattle.ls_stream.specs.View.Reading.{Take}
use Rattle.ls_stream.specs.declared.faults.StreamFault.TheVariants as stream
use Rattle.ls_stream.specs.View.Outlines.{Outline, of_all, outline_at, outline_of, SpellingsHaveBoundedOutlines}
use Rattle.ls_stream.proofs.StepLemmas.{same_ok}
use Rattle.ls_stream.proofs.MostLemmas.{first_of, left_of}
use Rattle.ls_stream.proofs.GrownLemmas.{changed, left_more, outline_grown}
use Rattle.ls_film.specs.Film.{most_frames, IsFilm}
use Rattle.ls_film.specs.View.Codestreams.{BeginsWithNone}
use Rattle.ls_film.specs.View.Steps.{failed_by}
use Rattle.ls_archive.specs.declared.faults.IndexFault.{IndexFault}
use Rattle.ls_archive.specs.declared.faults.IndexFault.TheVariants.{Stream, Io, Output, NoMemory, TooMany}
use Rattle.ls_archive.specs.Index.{Entry, joined}
use Rattle.ls_archive.specs.View.Entries.{Says, IsEntry, IsOfFrame, OneIndex}
use Rattle.ls_archive.specs.View.Indexing.{Completes, Stops, IsIndexOf, StopsOver, IsIndexOfFrames, IsOutOfMemory, blames_reader}
use Rattle.ls_archive.proofs.EntryLemmas.{outline_few, some_outlined}

no_end : (r : Take Outline) (o : Outline) (left : List ℕ) → r ≡ Ok (o, left) → r ≡ Err stream.Truncated → ⊥
no_end r o left ok err = let clash : ⊥ = cc in absurd clash

-- a complete codestream is complete whatever follows it
outline_more : (bytes rest : List ℕ) (o : Outline) → length bytes ≤ most_bytes → outline_of bytes ≡ Ok (o, []) → outline_of (bytes ++ rest) ≡ Ok (o, rest)
unfolding outline_of
outline_more bytes rest o few complete =
    let more : List ℕ = take (most_bytes - length bytes) rest in
    let read : outline_at bytes ≡ Ok (o, []) = sym (outline_few bytes few) ∙ complete in
    elim (outline_grown bytes more) [
      | inl truncated ↦ absurd (no_end (outline_at bytes) o [] read truncated)
      | inr grown ↦
          ap (λ bs. of_all (bytes ++ rest) (outline_at bs)) (first_of most_bytes bytes rest few)
          ∙ ap (of_all (bytes ++ rest)) (grown ∙ ap (changed (left_more more)) read)
          ∙ ap (λ bs. Ok (o, bs)) (left_of most_bytes bytes rest few)
    ]

same_read : (a b : Outline) (rest more : List ℕ) → ◌≡◌ {A = Take Outline} (Ok (a, rest)) (Ok (b, more)) → (a ≡ b) × (rest ≡ more)
same_read a b rest more e =
    let same = same_ok {A = Outline × List ℕ} _ _ e in
    (ap (λ (p : Outline × List ℕ). p.0) same, ap (λ (p : Outline × List ℕ). p.1) same)

-- ---- one index

-- lists with equal ends, whose concatenations are equal, are equal
same_front : (a b rest : List ℕ) → a ++ rest ≡ b ++ rest → a ≡ b
same_front a b rest same =
    let size : length a ≡ length b = omega (arith, ap length same, length-append a rest, length-append b rest) in
    sym (take-append_seam a rest) ∙ ap (take (length a)) same ∙ ap (λ n. take n (b ++ rest)) size ∙ take-append_seam b rest

-- entries with the same bytes and the same headers are equal
same_entry : (a b : Entry) (one : Outline) (two : Outline) → a.bytes ≡ b.bytes → one ≡ two → Says one a → Says two b → a ≡ b
same_entry a b one two bytes same says says' =
    let kind = sym says.kind ∙ ap (λ (o : Outline). o.header.kind) same ∙ says'.kind in
    let width = sym says.width ∙ ap (λ (o : Outline). o.header.width) same ∙ says'.width in
    let height = sym says.height ∙ ap (λ (o : Outline). o.header.height) same ∙ says'.height in
    let precision = sym says.precision ∙ ap (λ (o : Outline). o.header.precision) same ∙ says'.precision in
    let parameters = sym says.parameters ∙ ap (λ (o : Outline). o.parameters) same ∙ says'.parameters in
    λ i. record { bytes = bytes i; kind = kind i; width = width i; height = height i; precision = precision i; parameters = parameters i }

-- two entries at the front of the same bytes are equal
pub first_same : (a b : Entry) (rest more : List ℕ) → IsEntry a → IsEntry b → a.bytes ++ rest ≡ b.bytes ++ more → (a ≡ b) × (rest ≡ more)
first_same a b rest more is is' same =
    let one = same_read is.outline is'.outline rest more
    (sym (outline_more a.bytes rest is.outline is.short is.complete) ∙ ap outline_of same ∙ outline_more b.bytes more is'.outline is'.short is'.complete) in
    let bytes = same_front a.bytes b.bytes more (ap (λ s. a.bytes ++ s) (sym one.1) ∙ same) in
    (same_entry a b is.outline is'.outline bytes one.0 is.says is'.says, one.1)

same_entries : (a b : List Entry) → AllByRecursion IsEntry a → AllByRecursion IsEntry b → joined a ≡ joined b → a ≡ b
same_entries [] [] each each' same = refl
same_entries [] (entry ∷ b) each each' same =
    absurd (omega (arith, ap length same, length-append entry.bytes (joined b), some_outlined entry.bytes each'.0.outline each'.0.complete))
same_entries (entry ∷ a) [] each each' same =
    absurd (omega (arith, ap length same, length-append entry.bytes (joined a), some_outlined entry.bytes each.0.outline each.0.complete))
same_entries (entry ∷ a) (other ∷ b) each each' same =
    let first = first_same entry other (joined a) (joined b) each.0 each'.0 same in
    let rest = same_entries a b each.1 each'.1 first.1 in
    λ i. first.0 i ∷ rest i

pub one_index : OneIndex
one_index bytes entries others are also = same_entries entries others are.each also.each (sym are.joined_are ∙ also.joined_are)

-- ---- recordings of frames

-- two lists whose elements correspond have the same length
zip-length : (entries : List Entry) (frames : List Picture) → AllZip IsOfFrame entries frames → length entries ≡ length frames
zip-length [] [] all = refl
zip-length [] (f ∷ frames) all = absurd all
zip-length (entry ∷ entries) [] all = absurd all
zip-length (entry ∷ entries) (f ∷ frames) all = ap suc (zip-length entries frames all.1)

-- after the first frames a codestream begins, or nothing follows
pub no_break : (rest : List ℕ) (more : List Picture) → IsFilm Spells rest more → BeginsWithNone rest → ⊥
no_break rest [] none broken = absurd (omega (arith, ap length none, broken.some))
no_break rest (f ∷ more) film broken = broken.none film.0 film.1 f film.2 film.3

module _ (law : SpellingsHaveBoundedOutlines) where
  -- a complete codestream, and a codestream of a frame, at the front of the same bytes are one
  entry_frame : (entry : Entry) (rest codestream more : List ℕ) (f : Picture) → IsEntry entry → entry.bytes ++ rest ≡ codestream ++ more → Spells codestream f
      → IsOfFrame entry f × (rest ≡ more)
  entry_frame entry rest codestream more f is same spells =
      let read = law codestream more f spells in
      let one = same_read is.outline read.0 rest more (sym (outline_more entry.bytes rest is.outline is.short is.complete) ∙ ap outline_of same ∙ read.1) in
      let says = is.says in (
        record {
          kind = sym says.kind ∙ ap (λ (o : Outline). o.header.kind) one.0 ∙ read.2.kind;
          width = sym says.width ∙ ap (λ (o : Outline). o.header.width) one.0 ∙ read.2.width;
          height = sym says.height ∙ ap (λ (o : Outline). o.header.height) one.0 ∙ read.2.height;
          maxval = sym (ap (λ p. p.maxval) says.parameters) ∙ ap (λ (o : Outline). o.parameters.maxval) one.0 ∙ read.2.maxval;
        },
        one.1,
      )

  -- the entries at the front of a recording of frames are of its first frames, and what follows is a recording of the others
  entries_are : (entries : List Entry) (rest bytes : List ℕ) (frames : List Picture) → AllByRecursion IsEntry entries → bytes ≡ joined entries ++ rest → IsFilm Spells bytes frames
      → (first : List Picture) × (more : List Picture) × (frames ≡ first ++ more) × AllZip IsOfFrame entries first × IsFilm Spells rest more
  entries_are [] rest bytes frames each whole film = ([], frames, refl, tt, rw (sym whole) film)
  entries_are (entry ∷ entries) rest bytes [] each whole film =
      absurd (omega (
        arith,
        ap length film,
        ap length whole,
        length-append (joined (entry ∷ entries)) rest,
        length-append entry.bytes (joined entries),
        some_outlined entry.bytes each.0.outline each.0.complete,
      ))
  entries_are (entry ∷ entries) rest bytes (f ∷ frames) each whole film =
      let split : entry.bytes ++ (joined entries ++ rest) ≡ film.0 ++ film.1 = sym (append_assoc entry.bytes (joined entries) rest) ∙ sym whole ∙ film.2 in
      let one = entry_frame entry (joined entries ++ rest) film.0 film.1 f each.0 split film.3 in
      let next = entries_are entries rest film.1 frames each.1 (sym one.1) film.4 in
      (f ∷ next.0, next.1, ap (λ fs. f ∷ fs) next.2, (one.0, next.3), next.4)

  no_bytes : (bytes : List ℕ) → length bytes ≡ 0 → bytes ≡ []
  no_bytes [] none = refl
  no_bytes (byte ∷ bytes) none = absurd (omega (arith, none))

  -- no bytes are a recording of no frames
  none_left : (more : List Picture) → IsFilm Spells [] more → more ≡ []
  none_left [] film = refl
  none_left (f ∷ more) film =
      let read = law film.0 film.1 f film.3 in
      let size : length film.0 + length film.1 ≡ 0 = omega (arith, ap length film.2, length-append film.0 film.1) in
      let none : film.1 ≡ [] = no_bytes film.1 (omega (arith, size)) in
      absurd (omega (arith, size, length-append film.0 film.1, some_outlined (film.0 ++ film.1) read.0 (read.1 ∙ ap (λ left. Ok (read.0, left)) none)))

  module _ (sums : Bool) (recording out : List ℕ) (frames : List Picture) (few : length frames ≤ most_frames) (film : IsFilm Spells recording frames) where
    indexed : (n : ℕ) → IsIndexOf sums recording out n → IsIndexOfFrames sums recording frames out n
    indexed n index =
        let are = entries_are index.entries [] recording frames index.are.each (index.are.joined_are ∙ sym (append-nil (joined index.entries))) film in
        let none = none_left are.1 are.4 in
        let all : frames ≡ are.0 = are.2 ∙ ap (λ more. are.0 ++ more) none ∙ append-nil are.0 in
        record {
          index = index;
          count = sym index.count ∙ zip-length index.entries are.0 are.3 ∙ ap length (sym all);
          forms = rw all are.3;
        }

    stopped : (fault : IndexFault) → StopsOver sums recording out fault → IsOutOfMemory fault
    stopped (Stream m fault) why =
        let run = why.1.0 in
        let broken = run.begins refl in
        let are = entries_are run.entries broken.1 recording frames broken.3.each (broken.2 ∙ ap (λ s. s ++ broken.1) broken.3.joined_are) film in
        absurd (no_break broken.1 are.1 are.4 broken.4.0)
    stopped (Io m) why = let clash : ⊥ = cc in absurd clash
    stopped (Output bytes) why = tt
    stopped NoMemory why = tt
    stopped TooMany why =
        let run = why.1 in
        let gave = run.gave refl in
        let are = entries_are (run.entries ++ run.last ∷ []) (known why.0) recording frames gave.3.each (gave.2 ∙ ap (λ s. s ++ known why.0) gave.3.joined_are) film in
        absurd (omega (arith, few, run.count, length_push run.entries run.last, zip-length (run.entries ++ run.last ∷ []) are.0 are.3, ap length are.2, length-append are.0 are.1))

    pub whole_index : (r : Result ℕ IndexFault) → IfOk r (IsIndexOf sums recording out) → IfErr r (StopsOver sums recording out)
        → MatchResult r (IsIndexOfFrames sums recording frames out) IsOutOfMemory
    whole_index (Ok n) completes stops = indexed n completes
    whole_index (Err fault) completes stops = stopped fault stops

-- ---- in memory

pub index_of : (sums : Bool) (recording out : List ℕ) (left : Option (List ℕ)) (n : ℕ) → Completes sums (Some recording) left (Some []) (Some out) n → IsIndexOf sums recording out n
index_of sums recording out left n run = record { entries = run.entries; count = run.count; few = run.few; are = (run.gave refl).2; wrote = run.wrote }

-- if a count stays 0, no call failed
pub no_failure : (failed : Bool) → 0 ≡ count_after failed 0 → failed ≡ false
no_failure false stays = refl
no_failure true stays = absurd (omega arith)

pub stops_over : (sums : Bool) (recording out : List ℕ) (left : Option (List ℕ)) (r : Result ℕ IndexFault) → 0 ≡ count_after (failed_by blames_reader r) 0
    → IfErr r (Stops sums (Some recording) left (Some []) (Some out)) → IfErr r (StopsOver sums recording out)
stops_over sums recording out left (Ok n) stays stops = tt
stops_over sums recording out left (Err fault) stays stops = (left, stops, no_failure (blames_reader fault) stays)
