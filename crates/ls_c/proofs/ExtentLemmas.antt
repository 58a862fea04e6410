-- The extent of the next codestream, from what is read through a reader of its bytes.
use Rattle.std.proofs.Common.{◌≡◌, ◌⊎◌, ℕ, List, ◌++◌, length, take, drop, Some, inl, inr, refl, sym, ◌∙◌, ap, subst, length-append, arith}
use Rattle.std.specs.Prelude.{Option, ◌↔◌}
use Rattle.std.proofs.lemmas.Grind.{common_steps}
use Rattle.ls_bits.specs.Bits.{AreBytes}
use Rattle.ls_frame.specs.Picture.{Picture}
use Rattle.ls_frame.specs.View.Known.{Tells, Gave, known}
use Rattle.ls_stream.specs.declared.next.NextFault.{NextFault}
use Rattle.ls_stream.specs.declared.next.NextFault.TheVariants as next_fault
use Rattle.ls_stream.specs.declared.faults.StreamFault.{StreamFault}
use Rattle.ls_stream.specs.Grammar.{Spells}
use Rattle.ls_stream.specs.View.Extents.{IsNext, BeginsEndless}
use Rattle.ls_stream.specs.View.Outlines.{IsFirstFault}
use Rattle.ls_c.specs.Calls.{IsExtent}

take_front : (front rest : List ℕ) → take (length front) (front ++ rest) ≡ front
take_front front rest = grind (arith, common_steps)

drop_front : (front rest : List ℕ) → drop (length front) (front ++ rest) ≡ rest
drop_front front rest = grind (arith, common_steps)

split : (bytes found rest : List ℕ) (extent : ℕ) → bytes ≡ found ++ rest → extent ≡ length found → IsNext found rest → IsNext (take extent bytes) (drop extent bytes)
split bytes found rest extent e count next = rw e (rw count (rw take_front (rw drop_front next)))

front_is : (bytes found rest : List ℕ) (extent : ℕ) → bytes ≡ found ++ rest → extent ≡ length found → take extent bytes ≡ found
front_is bytes found rest extent e count = rw e (rw count (take_front found rest))

-- the front has the first fault of all bytes
abbrev FaultAlike : List ℕ → List ℕ → Type 0
FaultAlike front bytes = (cause : StreamFault) → IsFirstFault front cause ↔ IsFirstFault bytes cause

pub found_is : (bytes : List ℕ) (old new : Option (List ℕ)) (found : List ℕ) (extent : ℕ) → AreBytes bytes → old ≡ Some bytes
    → Gave old new (λ (read : List ℕ). (found ≡ read) × IsNext read (known new)) → extent ≡ length found
    → (Tells old → (front rest : List ℕ) (f : Picture) → known old ≡ front ++ rest → Spells front f → found ≡ front)
    → (Tells old → AreBytes (known old) → (cause : StreamFault) → IsFirstFault found cause ↔ IsFirstFault (known old) cause) → IsExtent bytes extent 0
found_is bytes old new found extent are told gave count only alike =
    let gave' = subst (λ (o : Option (List ℕ)). Gave o new (λ (read : List ℕ). (found ≡ read) × IsNext read (known new))) told gave refl in
    let only' = subst (λ (o : Option (List ℕ)). Tells o → (front rest : List ℕ) (f : Picture) → known o ≡ front ++ rest → Spells front f → found ≡ front) told only refl in
    let alike' : FaultAlike found bytes = subst (λ (o : Option (List ℕ)). Tells o → AreBytes (known o) → FaultAlike found (known o)) told alike refl are in
    let read = gave'.1 in
    let whole : bytes ≡ found ++ known new = gave'.2 ∙ ap (λ (xs : List ℕ). xs ++ known new) (sym gave'.3.0) in
    let next : IsNext found (known new) = subst (λ (xs : List ℕ). IsNext xs (known new)) (sym gave'.3.0) gave'.3.1 in
    record {
      statuses = inl refl;
      within = omega (arith, ap length whole, length-append found (known new), count);
      next = λ _ _. split bytes found (known new) extent whole count next;
      complete = λ front rest f e s. inr (refl, count ∙ ap length (only' front rest f e s));
      fault = λ _. subst (λ (front : List ℕ). FaultAlike front bytes) (sym (front_is bytes found (known new) extent whole count)) alike';
      memory = λ one. absurd (omega (arith, one));
      too_large = λ large. absurd (omega (arith, large));
      none = λ some. absurd (some refl);
    }

pub too_large_is : (bytes : List ℕ) (old : Option (List ℕ)) → old ≡ Some bytes → (Tells old → BeginsEndless (known old))
    → (Tells old → (front rest : List ℕ) (f : Picture) → known old ≡ front ++ rest → Spells front f → ⊥) → IsExtent bytes 0 39
too_large_is bytes old told endless only =
    let only' = subst (λ (o : Option (List ℕ)). Tells o → (front rest : List ℕ) (f : Picture) → known o ≡ front ++ rest → Spells front f → ⊥) told only refl in
    record {
      statuses = inr (inr refl);
      within = omega arith;
      next = λ zero. absurd (omega (arith, zero));
      complete = λ front rest f e s. absurd (only' front rest f e s);
      fault = λ zero. absurd (omega (arith, zero));
      memory = λ one. absurd (omega (arith, one));
      too_large = λ _. subst (λ (o : Option (List ℕ)). Tells o → BeginsEndless (known o)) told endless refl;
      none = λ _. refl;
    }

pub not_so : (fault : NextFault) → fault ≡ next_fault.TooLarge → (fault ≡ next_fault.Io) ⊎ (fault ≡ next_fault.NoMemory) → ⊥
not_so fault is others = elim others [ inl io ↦ absurd cc | inr memory ↦ absurd cc ]
