-- The least exponent that reaches a number.
use Rattle.std.proofs.Common.{◌≡◌, ℕ, zero, suc, ◌+◌, ◌-◌, ◌*◌, ◌^◌, ◌<◌, ◌≤◌, Bool, true, false, cond, refl, subst, arith, leb, inl, inr}
use Rattle.std.proofs.lemmas.Bool.{leb-true, leb-false, cases_lt}
use Rattle.std.proofs.lemmas.Nat.{leading_length}
use Rattle.std.proofs.Math.Pow.{pow_mono}
use Rattle.std.proofs.Math.Nat.{pow-suc}
use lib.Count.{count_leading_zeros}
use Rattle.ls_frame.specs.Parameters.{first_reaching, ceil_log2}

-- a bound by 2 ^ (q + (t + 1)) is one by 2 ^ ((q + 1) + t)
later : (t q n : ℕ) → n ≤ 2 ^ (q + suc t) → n ≤ 2 ^ (suc q + t)
later t q n h = let e : q + suc t ≡ suc q + t = omega arith in subst (λ k. n ≤ 2 ^ k) e h

reaches : (t q n : ℕ) (here : Bool) → leb n (2 ^ q) ≡ here → n ≤ 2 ^ (q + suc t) → ((n ≤ 2 ^ (suc q + t)) → n ≤ 2 ^ first_reaching t (suc q) n)
    → n ≤ 2 ^ cond here q (first_reaching t (suc q) n)
reaches t q n true e h more = leb-true n (2 ^ q) e
reaches t q n false e h more = more (later t q n h)

pub first_reaching-reaches : (t q n : ℕ) → n ≤ 2 ^ (q + t) → n ≤ 2 ^ first_reaching t q n
first_reaching-reaches zero q n h = let e : q + 0 ≡ q = omega arith in subst (λ k. n ≤ 2 ^ k) e h
first_reaching-reaches (suc t) q n h = reaches t q n (leb n (2 ^ q)) refl h (first_reaching-reaches t (suc q) n)

not_yet : (q n p : ℕ) → leb n (2 ^ q) ≡ false → q ≤ p → n ≤ 2 ^ p → suc q ≤ p
not_yet q n p e low h = elim (cases_lt q p) [
  | inl more ↦ omega arith
  | inr same ↦ let grown : 2 ^ p ≤ 2 ^ q = pow_mono same in absurd (omega (arith, leb-false n (2 ^ q) e))
]

least : (t q n p : ℕ) (here : Bool) → leb n (2 ^ q) ≡ here → q ≤ p → n ≤ 2 ^ p → ((suc q ≤ p) → first_reaching t (suc q) n ≤ p)
    → cond here q (first_reaching t (suc q) n) ≤ p
least t q n p true e low h more = low
least t q n p false e low h more = more (not_yet q n p e low h)

pub first_reaching-least : (t q n p : ℕ) → q ≤ p → n ≤ 2 ^ p → first_reaching t q n ≤ p
first_reaching-least zero q n p low h = low
first_reaching-least (suc t) q n p low h = least t q n p (leb n (2 ^ q)) refl low h (λ l. first_reaching-least t (suc q) n p l h)

-- its power of two is at least n, and that of no smaller exponent is
pub ceil_log2-reaches : (n : ℕ) → n ≤ 2 ^ 16 → n ≤ 2 ^ ceil_log2 n
unfolding ceil_log2
ceil_log2-reaches n h = first_reaching-reaches 16 0 n h

pub ceil_log2-least : (n p : ℕ) → n ≤ 2 ^ p → ceil_log2 n ≤ p
unfolding ceil_log2
ceil_log2-least n p h = first_reaching-least 16 0 n p (omega arith) h

-- it is the number of bits of n - 1
pub ceil_log2-bits : (a : ℕ) → a < 2 ^ 16 → 16 - count_leading_zeros 16 a ≡ ceil_log2 (a + 1)
ceil_log2-bits a h =
    let top = leading_length 16 a h in
    let m : ℕ = top.0 in
    let same : 16 - count_leading_zeros 16 a ≡ m = omega (arith, top.1) in
    let within : a + 1 ≤ 2 ^ m = omega (arith, top.2) in
    let at_most : ceil_log2 (a + 1) ≤ m = ceil_log2-least (a + 1) m within in
    let reached : a + 1 ≤ 2 ^ ceil_log2 (a + 1) = ceil_log2-reaches (a + 1) (omega arith) in
    elim (cases_lt (ceil_log2 (a + 1)) m) [
      | inl below ↦
          let grown : 2 ^ suc (ceil_log2 (a + 1)) ≤ 2 ^ m = pow_mono below in
          let doubled : 2 ^ suc (ceil_log2 (a + 1)) ≡ 2 ^ ceil_log2 (a + 1) * 2 = pow-suc 2 (ceil_log2 (a + 1)) in
          absurd (omega (arith, top.2, top.3))
      | inr above ↦ omega arith
    ]

pub ruleset exponent_lemmas = ceil_log2-bits
