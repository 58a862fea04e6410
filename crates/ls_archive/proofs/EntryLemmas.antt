-- The headers of the next codestream, and what they say of all that a reader had left.
use Rattle.std.proofs.Common.{◌≡◌, ◌+◌, ◌-◌, ◌≤◌, ltb, ℕ, List, [], ◌∷◌, ◌++◌, length, take, drop, inl, inr, Option, Ok, Err, refl, sym, ap, subst, ◌∙◌, arith, append-nil, length-append, length-drop}
use Rattle.std.proofs.lemmas.Bool.{cond-false, le-ltb}
use Rattle.std.proofs.lemmas.List.{take_all, drop_all}
use Rattle.ls_frame.specs.Picture.{Picture}
use Rattle.ls_frame.specs.View.Known.{Tells, Gave, known}
use Rattle.ls_stream.specs.declared.faults.StreamFault.{StreamFault}
use Rattle.ls_stream.specs.declared.faults.StreamFault.TheVariants as stream
use Rattle.ls_stream.specs.Grammar.{Spells, most_bytes}
use Rattle.ls_stream.specs.View.Reading.{Take, start_at}
use Rattle.ls_stream.specs.View.Outlines.{Outline, past_most, of_all, outline_at, outline_of, SpellingsHaveBoundedOutlines}
use Rattle.ls_stream.specs.View.Extents.{Left, IsNext, extent_at, with_left}
use Rattle.ls_stream.proofs.StepLemmas.{same_ok}
use Rattle.ls_stream.proofs.ExtentLaws.{outlines_have_extents}
use Rattle.ls_film.specs.View.Codestreams.{IsUntaken}
use Rattle.ls_film.specs.declared.codestreams.Unread.TheVariants.{Stream}
use Rattle.ls_archive.specs.declared.entry.Headers.{Headers}
use Rattle.ls_film.specs.View.Memory.{HasBytes}
use Rattle.ls_archive.specs.View.Entries.{GaveEntry, BreaksBy, entry_of, HasHeaders}
use Rattle.ls_archive.specs.View.Indexing.{StopsNext, index_fault}

-- ---- outlines

-- bytes beyond the most that a codestream may have are left
left_past : {X : Type 0} (bytes : List ℕ) (r : Take X) (x : X) (left : List ℕ) → of_all bytes r ≡ Ok (x, left) → length bytes - most_bytes ≤ length left
left_past {X} bytes (Ok found) x left e =
    let same : found.1 ++ drop most_bytes bytes ≡ left = ap (λ (p : X × List ℕ). p.1) (same_ok {A = X × List ℕ} _ _ e) in
    omega (arith, ap length same, length-append found.1 (drop most_bytes bytes), length-drop most_bytes bytes)
left_past bytes (Err fault) x left e = absurd cc

-- so at most that many are used
pub used_few : (bytes left : List ℕ) (o : Outline) (used : ℕ) → outline_of bytes ≡ Ok (o, left) → used + length left ≡ length bytes → used ≤ most_bytes
unfolding outline_of
used_few bytes left o used read size = omega (arith, size, left_past bytes (outline_at (take most_bytes bytes)) o left read)

-- the outline of at most that many bytes is read from all of them
of_few : {X : Type 0} (bytes : List ℕ) (r : Take X) → length bytes ≤ most_bytes → of_all bytes r ≡ r
of_few bytes (Ok found) few = ap (λ bs. Ok (found.0, found.1 ++ bs)) (drop_all most_bytes bytes few) ∙ ap (λ bs. Ok (found.0, bs)) (append-nil found.1)
of_few bytes (Err fault) few = ap (λ (f : StreamFault). Err f) (cond-false (ltb most_bytes (length bytes)) (past_most fault) fault (le-ltb most_bytes (length bytes) few))

pub outline_few : (bytes : List ℕ) → length bytes ≤ most_bytes → outline_of bytes ≡ outline_at bytes
unfolding outline_of
outline_few bytes few = ap (λ bs. of_all bytes (outline_at bs)) (take_all most_bytes bytes few) ∙ of_few bytes (outline_at bytes) few

-- ---- the next codestream

-- it is complete, and the bytes read are all of it
pub entry_given : (old new : Option (List ℕ)) (bytes : List ℕ) (headers : Headers) → Gave old new (λ read. (bytes ≡ read) × IsNext read (known new)) → HasHeaders bytes headers
    → GaveEntry old new (entry_of bytes headers)
entry_given old new bytes headers gives has = λ told.
    let gave = gives told in
    let next : IsNext bytes (known new) = rw gave.3.0 gave.3.1 in
    let none : has.left ≡ [] = next.to_end has.left (outlines_have_extents bytes has.left has.outline (sym (outline_few bytes next.short) ∙ has.read)) in
    let all : take headers.used bytes ≡ bytes = take_all headers.used bytes (omega (arith, has.size, ap length none)) in
    let short : length (take headers.used bytes) ≤ most_bytes = omega (arith, next.short, ap length all) in (
      gave.0,
      bytes,
      gave.2 ∙ ap (λ s. s ++ known new) (sym gave.3.0),
      (
        sym all,
        record {
          short = short;
          outline = has.outline;
          complete = ap outline_of all ∙ has.read ∙ ap (λ left. Ok (has.outline, left)) none;
          says = has.says;
        },
      ),
    )

no_outline : (r : Take Outline) (o : Outline) (left : List ℕ) (fault : StreamFault) → r ≡ Ok (o, left) → r ≡ Err fault → ⊥
no_outline r o left fault ok err = let clash : ⊥ = cc in absurd clash

-- bytes whose outline has a fault begin with no codestream of a frame
pub none_outlined : SpellingsHaveBoundedOutlines → (bytes : List ℕ) (fault : StreamFault) → outline_of bytes ≡ Err fault
    → (front rest : List ℕ) (f : Picture) → bytes ≡ front ++ rest → Spells front f → ⊥
none_outlined law bytes fault breaks front rest f whole spells =
    let read = law front rest f spells in
    no_outline (outline_of bytes) read.0 rest fault (ap outline_of whole ∙ read.1) breaks

-- a fault of the next codestream's bytes is a fault of all that was left
pub breaks_by : (old new : Option (List ℕ)) (bytes seen : List ℕ) (fault : StreamFault) → seen ≡ bytes → (Tells old → HasBytes (known old))
    → (Tells old → (front rest : List ℕ) (f : Picture) → known old ≡ front ++ rest → Spells front f → bytes ≡ front)
    → (Tells old → outline_of (known old) ≡ with_left (known new) (outline_of bytes))
    → ((front rest : List ℕ) (f : Picture) → seen ≡ front ++ rest → Spells front f → ⊥) → outline_of seen ≡ Err fault
    → Tells old → BreaksBy fault (known old)
breaks_by old new bytes seen fault is some only outlines none breaks told = (
  record {
    some = some told;
    none = λ front rest f whole spells. none front [] f (is ∙ only told front rest f whole spells ∙ sym (append-nil front)) spells;
  },
  inl (outlines told ∙ ap (λ s. with_left (known new) (outline_of s)) (sym is) ∙ ap (with_left (known new)) breaks),
)

-- an empty list is no codestream
no_extent : (r : Left) → r ≡ Err stream.Truncated → r ≡ Ok [] → ⊥
no_extent r err ok = let clash : ⊥ = cc in absurd clash

pub some_outlined : (bytes : List ℕ) (o : Outline) → outline_of bytes ≡ Ok (o, []) → HasBytes bytes
unfolding extent_at start_at
some_outlined [] o read = absurd (no_extent (extent_at []) refl (outlines_have_extents [] [] o (sym (outline_few [] (omega arith)) ∙ read)))
some_outlined (byte ∷ bytes) o read = omega arith

-- the fault of an index for such a fault
pub stops_by : (read : Option (List ℕ)) (n : ℕ) (fault : StreamFault) → (Tells read → HasBytes (known read)) → (Tells read → BreaksBy fault (known read))
    → StopsNext read n (index_fault n fault)
stops_by read n stream.Truncated some breaks = (refl, (λ is. let clash : ⊥ = cc in clash), breaks)
stops_by read n stream.NotSoi some breaks = (refl, (λ is. let clash : ⊥ = cc in clash), breaks)
stops_by read n stream.BadSegment some breaks = (refl, (λ is. let clash : ⊥ = cc in clash), breaks)
stops_by read n (stream.Unsupported what) some breaks = (refl, (λ is. let clash : ⊥ = cc in clash), breaks)
stops_by read n (stream.BadPresets fault) some breaks = (refl, (λ is. let clash : ⊥ = cc in clash), breaks)
stops_by read n stream.TooLarge some breaks = (refl, (λ is. let clash : ⊥ = cc in clash), breaks)
stops_by read n (stream.BadCode component) some breaks = (refl, (λ is. let clash : ⊥ = cc in clash), breaks)
stops_by read n (stream.LeftoverBits component) some breaks = (refl, (λ is. let clash : ⊥ = cc in clash), breaks)
stops_by read n stream.NoMemory some breaks = some

-- and for a codestream that can't be taken
pub stops_untaken : (read read' : Option (List ℕ)) (n : ℕ) (fault : StreamFault) → IsUntaken (Stream fault) read read' → StopsNext read n (index_fault n fault)
stops_untaken read read' n fault (inl memory) = subst (λ f. StopsNext read n (index_fault n f)) (sym memory.0) memory.1
stops_untaken read read' n fault (inr large) =
    subst (λ f. StopsNext read n (index_fault n f)) (sym large.0)
    (refl, (λ is. let clash : ⊥ = cc in clash), (λ told. let is = large.1 told in (is.0, inr (refl, is.1))))
