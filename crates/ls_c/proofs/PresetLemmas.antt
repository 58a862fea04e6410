-- Coding parameters of more than 16 bits are out of their ranges, and so is the 0 that replaces them.
use Rattle.std.proofs.Common.{◌≡◌, ℕ, ◌≤◌, None, Some, MatchResult, sym, subst, arith}
use Rattle.std.specs.Prelude.{Option, Result}
use Rattle.std.proofs.lemmas.Bool.Decides.{nat_tests}
use Rattle.ls_frame.specs.declared.presets.PresetFault.{PresetFault}
use Rattle.ls_frame.specs.Parameters.{Parameters, preset_fault, unless_fault, explicit_parameters}
use Rattle.ls_c.specs.Forms.{narrowed}

abbrev pub asked : ℕ → ℕ → ℕ → ℕ → ℕ → Parameters
asked maxval t1 t2 t3 reset = record { maxval = maxval; t1 = t1; t2 = t2; t3 = t3; reset = reset }

abbrev pub narrow : ℕ → ℕ → ℕ → ℕ → ℕ → Parameters
narrow maxval t1 t2 t3 reset = asked maxval (narrowed t1) (narrowed t2) (narrowed t3) (narrowed reset)

pub same_fault : (maxval t1 t2 t3 reset : ℕ) → maxval ≤ 65535 → preset_fault (narrow maxval t1 t2 t3 reset) ≡ preset_fault (asked maxval t1 t2 t3 reset)
same_fault maxval t1 t2 t3 reset small = grind (arith, nat_tests)

pub kept : (maxval t1 t2 t3 reset : ℕ) → maxval ≤ 65535 → preset_fault (asked maxval t1 t2 t3 reset) ≡ None → narrow maxval t1 t2 t3 reset ≡ asked maxval t1 t2 t3 reset
kept maxval t1 t2 t3 reset small none = grind (arith, nat_tests)

by_fault : (fault : Option PresetFault) (q p : Parameters) → fault ≡ preset_fault p → (preset_fault p ≡ None → q ≡ p)
    → MatchResult (unless_fault fault q) (λ (presets : Parameters). (preset_fault p ≡ None) × (presets ≡ p)) (λ found. preset_fault p ≡ Some found)
by_fault None q p same kept = (sym same, kept (sym same))
by_fault (Some fault) q p same kept = sym same

explicit_is : (q p : Parameters) → preset_fault q ≡ preset_fault p → (preset_fault p ≡ None → q ≡ p)
    → MatchResult (explicit_parameters q) (λ (presets : Parameters). (preset_fault p ≡ None) × (presets ≡ p)) (λ found. preset_fault p ≡ Some found)
unfolding explicit_parameters
explicit_is q p same kept = by_fault (preset_fault q) q p same kept

pub narrowed_is : (p : Parameters) (r : Result Parameters PresetFault) → p.maxval ≤ 65535 → r ≡ explicit_parameters (narrow p.maxval p.t1 p.t2 p.t3 p.reset)
    → MatchResult r (λ (presets : Parameters). (preset_fault p ≡ None) × (presets ≡ p)) (λ found. preset_fault p ≡ Some found)
narrowed_is p r small e =
    let q = narrow p.maxval p.t1 p.t2 p.t3 p.reset in
    subst (λ (x : Result Parameters PresetFault). MatchResult x (λ (presets : Parameters). (preset_fault p ≡ None) × (presets ≡ p)) (λ found. preset_fault p ≡ Some found)) (sym e)
    (explicit_is q p (same_fault p.maxval p.t1 p.t2 p.t3 p.reset small) (kept p.maxval p.t1 p.t2 p.t3 p.reset small))
