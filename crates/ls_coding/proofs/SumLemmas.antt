-- The number of samples that bits 1 stand for, by a table of sums.
use Rattle.std.proofs.Common.{◌≡◌, ℕ, zero, suc, ◌+◌, ◌-◌, ◌*◌, ◌^◌, ◌<◌, ◌≤◌, min, List, [], ◌∷◌, get_or, length, refl, sym, ◌∙◌, ap, subst, arith}
use Rattle.std.proofs.Math.Pow.{pow_mono}
use Rattle.ls_coding.specs.Runs.{run_orders, order, samples_of_ones}
use Rattle.ls_coding.proofs.RunLemmas.{order_small}

-- for each RUNindex, the number of samples that bits 1 stand for while they raise RUNindex from the first one to it
abbrev pub sums_of : ℕ → List ℕ → List ℕ
sums_of sum [] = []
sums_of sum (j ∷ orders) = sum ∷ sums_of (sum + 2 ^ j) orders

next_sum : (sum : ℕ) (orders : List ℕ) (i : ℕ) → i + 1 < length orders → get_or (sums_of sum orders) (i + 1) 0 ≡ get_or (sums_of sum orders) i 0 + 2 ^ get_or orders i 0
next_sum sum [] i inside = absurd (omega arith)
next_sum sum (j ∷ []) i inside = absurd (omega arith)
next_sum sum (j ∷ next ∷ orders) zero inside = refl
next_sum sum (j ∷ next ∷ orders) (suc i) inside =
    let place : suc i + 1 ≡ suc (i + 1) = omega arith in
    ap (λ n. get_or (sums_of sum (j ∷ next ∷ orders)) n 0) place ∙ next_sum (sum + 2 ^ j) (next ∷ orders) i (omega arith)

sum_of_ones : (ones index : ℕ) → index + ones ≤ 31
    → get_or (sums_of 0 run_orders) (index + ones) 0 ≡ get_or (sums_of 0 run_orders) index 0 + samples_of_ones ones index
unfolding samples_of_ones
sum_of_ones zero index within =
    let same : index + 0 ≡ index = omega arith in
    let none : get_or (sums_of 0 run_orders) index 0 ≡ get_or (sums_of 0 run_orders) index 0 + 0 = omega arith in
    ap (λ n. get_or (sums_of 0 run_orders) n 0) same ∙ none
sum_of_ones (suc ones) index within =
    let sum : ℕ → ℕ = λ n. get_or (sums_of 0 run_orders) n 0 in
    let next : min (index + 1) 31 ≡ index + 1 = omega arith in
    let last : index + suc ones ≡ index + 1 + ones = omega arith in
    joined (sum (index + suc ones)) (sum (index + 1 + ones)) (sum (index + 1)) (sum index) (2 ^ order index) (samples_of_ones ones (index + 1)) (samples_of_ones ones (min (index + 1) 31))
    (ap sum last) (sum_of_ones ones (index + 1) (omega arith)) (next_sum 0 run_orders index (omega arith)) (ap (samples_of_ones ones) next)
  where
    joined : (all last next first one more later : ℕ) → all ≡ last → last ≡ next + more → next ≡ first + one → later ≡ more → all ≡ first + (one + later)
    joined all last next first one more later a b c d = omega arith

-- by the table
pub sums_rise : (ones index : ℕ) → index + ones ≤ 31 → get_or (sums_of 0 run_orders) index 0 ≤ get_or (sums_of 0 run_orders) (index + ones) 0
sums_rise ones index within =
    let P : ℕ → Type 0 = λ n. get_or (sums_of 0 run_orders) index 0 ≤ n in
    subst P (sym (sum_of_ones ones index within)) (more (get_or (sums_of 0 run_orders) index 0) (samples_of_ones ones index))
  where
    more : (a b : ℕ) → a ≤ a + b
    more a b = omega arith

pub ones_by_sums : (ones index : ℕ) → index + ones ≤ 31
    → get_or (sums_of 0 run_orders) (index + ones) 0 - get_or (sums_of 0 run_orders) index 0 ≡ samples_of_ones ones index
ones_by_sums ones index within =
    ap (λ n. n - get_or (sums_of 0 run_orders) index 0) (sum_of_ones ones index within) ∙ back (get_or (sums_of 0 run_orders) index 0) (samples_of_ones ones index)
  where
    back : (a b : ℕ) → a + b - a ≡ b
    back a b = omega arith

-- ---- a bound on their number

pub few_of_one : (index : ℕ) → 2 ^ order index ≤ 2 ^ 15
few_of_one index = pow_mono (order_small index)

pub few_of_ones : (ones index : ℕ) → samples_of_ones ones index ≤ ones * 2 ^ 15
unfolding samples_of_ones
few_of_ones zero index = omega arith
few_of_ones (suc ones) index = omega (arith, few_of_one index, few_of_ones ones (min (index + 1) 31))
