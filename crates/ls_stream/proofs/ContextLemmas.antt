-- The contexts of a row, kept as signed numbers.
use Rattle.std.proofs.Common.{◌≡◌, ℕ, zero, suc, ◌+◌, ◌<◌, ◌≤◌, false, ℤ, pos, negsuc, List, length, get_or, refl, sym, ◌∙◌, subst, inl, inr, arith}
use Rattle.std.proofs.Math.ListN.{set}
use Rattle.std.proofs.lemmas.Bool.{cases_lt, ne_eqb}
use Rattle.std.proofs.lemmas.List.{get_or-set_same, get_or-set_other}
use mir.Syntax.{w16}
use mir.Val.{of_z}
use Rattle.ls_coding.specs.declared.neighbours.Neighbours.{Neighbours}
use Rattle.ls_coding.specs.Contexts.{is_zero, is_run}

-- something holds of one more place
pub set_more : (xs : List ℤ) (start k : ℕ) (x : ℤ) (P : ℕ → ℤ → Type 0) → k < length xs → P k x → ((j : ℕ) → start ≤ j → j < k → P j (get_or xs j (pos 0)))
    → (j : ℕ) → start ≤ j → j < k + 1 → P j (get_or (set xs k x) j (pos 0))
set_more xs start k x P inside here before j low h =
    elim (cases_lt j k) [
      | inl earlier ↦ subst (P j) (sym (get_or-set_other xs k j x (pos 0) (λ e. omega arith))) (before j low earlier)
      | inr later ↦
          let same : k ≡ j = omega arith in
          subst (λ n. P n (get_or (set xs k x) n (pos 0))) same (subst (P k) (sym (get_or-set_same xs k x (pos 0) inside)) here)
    ]

-- ---- whether a number is 0, by its bits

other_bits : (z : ℤ) → (of_z w16 z ≡ 0 → ⊥) → is_zero z ≡ false
other_bits (pos zero) h = absurd (h refl)
other_bits (pos (suc n)) h = ne_eqb (suc n) 0 (λ e. absurd (omega arith))
other_bits (negsuc n) h = refl

pub regular_by : (n : Neighbours) (z : ℤ) → is_zero z ≡ is_run n → (of_z w16 z ≡ 0 → ⊥) → is_run n ≡ false
regular_by n z mode h = sym mode ∙ other_bits z h
