-- The next codestream of a recording, and what decoding it says of all that is left.
use Rattle.std.proofs.Common.{◌≡◌, ◌⊎◌, ◌<◌, ℕ, length, arith, inl, inr, List, [], ◌++◌, take, drop, Option, sym, ap, subst, ◌∙◌, append_assoc, append-nil}
use Rattle.std.proofs.lemmas.List.{length-append, take-append-drop}
use Rattle.std.specs.Prelude.{◌↔◌}
use Rattle.ls_bits.specs.Bits.{AreBytes}
use Rattle.ls_frame.specs.Picture.{Picture}
use Rattle.ls_frame.specs.View.Known.{Tells, Gave, known}
use Rattle.ls_stream.specs.Grammar.{Spells}
use Rattle.ls_stream.specs.View.Outlines.{IsFirstFault}
use Rattle.ls_stream.specs.declared.faults.StreamFault.{StreamFault}
use Rattle.ls_stream.specs.declared.next.NextFault.TheVariants as next_fault
use Rattle.ls_film.specs.View.Codestreams.{BreaksBy}

-- a codestream of a frame at the front of the bytes that were read is all of them
pub gave_codestream : (read read' : Option (List ℕ)) (bytes : List ℕ) (used : ℕ) (f : Picture) (P : List ℕ → Type 0)
    → Gave read read' (λ front. (bytes ≡ front) × P front)
    → (Tells read → (front rest : List ℕ) (g : Picture) → known read ≡ front ++ rest → Spells front g → bytes ≡ front)
    → Spells (take used bytes) f → Gave read read' (λ front. Spells front f)
gave_codestream read read' bytes used f P gives only spells = λ told.
    let gave = gives told in
    let whole : known read ≡ bytes ++ known read' = gave.2 ∙ ap (λ s. s ++ known read') (sym gave.3.0) in
    let split : bytes ++ known read' ≡ take used bytes ++ (drop used bytes ++ known read') =
    ap (λ s. s ++ known read') (sym (take-append-drop used bytes)) ∙ append_assoc (take used bytes) (drop used bytes) (known read') in
    let is : bytes ≡ take used bytes = only told (take used bytes) (drop used bytes ++ known read') f (whole ∙ split) spells in
    (gave.0, bytes, whole, rw is spells)

-- the first fault of equal bytes
pub first_alike : (Memory : Type 0) (bytes others : List ℕ) (fault : StreamFault) → bytes ≡ others → Memory ⊎ IsFirstFault bytes fault → Memory ⊎ IsFirstFault others fault
first_alike Memory bytes others fault is first = subst (λ s. Memory ⊎ IsFirstFault s fault) is first

-- if the bytes begin with no codestream of a frame, nor does the input, and their first fault is the input's
pub breaks_by : (Told Memory : Type 0) (all bytes : List ℕ) (fault : StreamFault) → (Told → 0 < length all)
    → (Told → (front rest : List ℕ) (f : Picture) → all ≡ front ++ rest → Spells front f → bytes ≡ front)
    → (Told → AreBytes all → (other : StreamFault) → IsFirstFault bytes other ↔ IsFirstFault all other)
    → Memory ⊎ ((front rest : List ℕ) (f : Picture) → bytes ≡ front ++ rest → Spells front f → ⊥) → Memory ⊎ IsFirstFault bytes fault
    → Memory ⊎ (Told → BreaksBy fault all)
breaks_by Told Memory all bytes fault some only alike (inl memory) first = inl memory
breaks_by Told Memory all bytes fault some only alike (inr none) (inl memory) = inl memory
breaks_by Told Memory all bytes fault some only alike (inr none) (inr first) = inr (λ told. (
  record {
    some = some told;
    none = λ front rest f whole spells. none front [] f (only told front rest f whole spells ∙ sym (append-nil front)) spells;
  },
  inl (λ are. (alike told are fault).0 first),
))

-- bytes were given, so there were some
pub gave_some : (read read' : Option (List ℕ)) (P : List ℕ → Type 0) → Gave read read' P → ((bytes : List ℕ) → P bytes → 0 < length bytes) → Tells read → 0 < length (known read)
gave_some read read' P gives some told =
    let gave = gives told in
    omega (arith, ap length gave.2, length-append gave.1 (known read'), some gave.1 gave.3)

-- a codestream that is too large is neither a failed read nor a failed allocation
pub too_large : (next_fault.TooLarge ≡ next_fault.Io) ⊎ (next_fault.TooLarge ≡ next_fault.NoMemory) → ⊥
too_large (inl e) = let clash : ⊥ = cc in absurd clash
too_large (inr e) = let clash : ⊥ = cc in absurd clash
