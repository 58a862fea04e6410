-- The Golomb parameter, the least exponent with n * 2^k at least a, and how the code computes it.
use Rattle.std.proofs.Common.{◌≡◌, ℕ, zero, suc, ◌+◌, ◌-◌, ◌*◌, ◌/◌, ◌%◌, ◌^◌, ◌<◌, ◌≤◌, Bool, true, false, cond, refl, sym, ◌∙◌, ap, subst, arith, leb, inl, inr, map, get_or}
use Rattle.std.proofs.lemmas.Bool.{leb-true, leb-false, cases_lt}
use Rattle.std.proofs.lemmas.Nat.{leading_le, leading_top, pow-add, shl_below, mul-le, pow_pos, div-add-mod', mod_below}
use Rattle.std.proofs.Math.Pow.{pow_mono}
use Rattle.std.proofs.Math.Nat.{mod-eq_of_lt, pow-suc, zero-div}
use lib.Count.{count_leading_zeros}
use Rattle.std.specs.List.{range_with_len}
use Rattle.std.proofs.lemmas.List.FromFn.{get_or-map-range_with_len}
use Rattle.ls_coding.specs.declared.error.TheConstants.{RECIPROCALS}
use Rattle.ls_coding.specs.Numbers.{first_scaling, golomb_parameter}

-- ---- the least

scaled_later : (t k n a : ℕ) → a ≤ n * 2 ^ (k + suc t) → a ≤ n * 2 ^ (suc k + t)
scaled_later t k n a h = let e : k + suc t ≡ suc k + t = omega arith in subst (λ m. a ≤ n * 2 ^ m) e h

reaches : (t k n a : ℕ) (here : Bool) → leb a (n * 2 ^ k) ≡ here → a ≤ n * 2 ^ (k + suc t) → ((a ≤ n * 2 ^ (suc k + t)) → a ≤ n * 2 ^ first_scaling t (suc k) n a)
    → a ≤ n * 2 ^ cond here k (first_scaling t (suc k) n a)
reaches t k n a true e h more = leb-true a (n * 2 ^ k) e
reaches t k n a false e h more = more (scaled_later t k n a h)

first_scaling-reaches : (t k n a : ℕ) → a ≤ n * 2 ^ (k + t) → a ≤ n * 2 ^ first_scaling t k n a
first_scaling-reaches zero k n a h = let e : k + 0 ≡ k = omega arith in subst (λ m. a ≤ n * 2 ^ m) e h
first_scaling-reaches (suc t) k n a h = reaches t k n a (leb a (n * 2 ^ k)) refl h (first_scaling-reaches t (suc k) n a)

grown : (n k m : ℕ) → k ≤ m → n * 2 ^ k ≤ n * 2 ^ m
grown n k m h = let power : 2 ^ k ≤ 2 ^ m = pow_mono h in mul-le n (2 ^ k) n (2 ^ m) (omega arith) power

not_yet : (k n a m : ℕ) → leb a (n * 2 ^ k) ≡ false → k ≤ m → a ≤ n * 2 ^ m → suc k ≤ m
not_yet k n a m e low h = elim (cases_lt k m) [
  | inl more ↦ omega arith
  | inr same ↦ absurd (omega (arith, leb-false a (n * 2 ^ k) e, grown n m k same))
]

least : (t k n a m : ℕ) (here : Bool) → leb a (n * 2 ^ k) ≡ here → k ≤ m → a ≤ n * 2 ^ m → ((suc k ≤ m) → first_scaling t (suc k) n a ≤ m)
    → cond here k (first_scaling t (suc k) n a) ≤ m
least t k n a m true e low h more = low
least t k n a m false e low h more = more (not_yet k n a m e low h)

first_scaling-least : (t k n a m : ℕ) → k ≤ m → a ≤ n * 2 ^ m → first_scaling t k n a ≤ m
first_scaling-least zero k n a m low h = low
first_scaling-least (suc t) k n a m low h = least t k n a m (leb a (n * 2 ^ k)) refl low h (λ l. first_scaling-least t (suc k) n a m l h)

pub golomb_parameter-least : (n a k : ℕ) → a ≤ n * 2 ^ k → golomb_parameter n a ≤ k
unfolding golomb_parameter
golomb_parameter-least n a k h = first_scaling-least 32 0 n a k (omega arith) h

pub golomb_parameter-reaches : (n a : ℕ) → a ≤ n * 2 ^ 32 → a ≤ n * 2 ^ golomb_parameter n a
unfolding golomb_parameter
golomb_parameter-reaches n a h = first_scaling-reaches 32 0 n a h

-- an exponent is the least if it suffices and the one below doesn't
is_least : (n a k : ℕ) → a ≤ n * 2 ^ 32 → a ≤ n * 2 ^ k → (1 ≤ k → n * 2 ^ (k - 1) < a) → k ≡ golomb_parameter n a
is_least n a k far h below = elim (cases_lt (golomb_parameter n a) k) [
  | inl less ↦ absurd (omega (arith, below (omega arith), golomb_parameter-reaches n a far, grown n (golomb_parameter n a) (k - 1) (omega arith)))
  | inr more ↦ omega (arith, golomb_parameter-least n a k h)
]

-- ---- by leading bits

-- what holds of the exponent that the code begins with
record Start (n a k : ℕ) : Type 0 where
  -- one more suffices
  after : a ≤ n * 2 ^ (k + 1)
  -- one less doesn't
  before : 1 ≤ k → n * 2 ^ (k - 1) < a
  fits : n * 2 ^ k < 2 ^ 32

no_ones : count_leading_zeros 32 0 ≡ 32
unfolding count_leading_zeros
no_ones = refl

start_low : (n a k : ℕ) → k ≡ 0 → a ≤ n * 2 → n < 2 ^ 32 → Start n a k
start_low n a k none h small =
    let one : 2 ^ k ≡ 1 = ap (λ m. 2 ^ m) none in
    let two : 2 ^ (k + 1) ≡ 2 = ap (λ m. 2 ^ (m + 1)) none in
    let plain : n * 2 ^ k ≡ n * 1 = ap (λ m. n * m) one in
    record {
      after = subst (λ m. a ≤ n * m) (sym two) h;
      before = λ some. absurd (omega arith);
      fits = omega arith;
    }

start_before : (n a k i j : ℕ) → k + j ≡ i → 1 ≤ k → 2 ^ i ≤ a → n < 2 ^ suc j → n * 2 ^ (k - 1) < a
start_before n a k i j sum some low_a high_n =
    let place : suc j + (k - 1) ≡ i = omega arith in
    let below : n * 2 ^ (k - 1) < 2 ^ (suc j + (k - 1)) = shl_below n (suc j) (k - 1) high_n in
    let power : 2 ^ (suc j + (k - 1)) ≡ 2 ^ i = ap (λ m. 2 ^ m) place in
    omega arith

start_high : (n a k i j : ℕ) → k + j ≡ i → suc i ≤ 32 → 2 ^ i ≤ a → a < 2 ^ suc i → 2 ^ j ≤ n → n < 2 ^ suc j → Start n a k
start_high n a k i j sum few low_a high_a low_n high_n =
    let above : j + (k + 1) ≡ suc i = omega arith in
    let power : 2 ^ suc i ≡ 2 ^ j * 2 ^ (k + 1) = ap (λ m. 2 ^ m) (sym above) ∙ pow-add 2 j (k + 1) in
    let scaled : 2 ^ j * 2 ^ (k + 1) ≤ n * 2 ^ (k + 1) = mul-le (2 ^ j) (2 ^ (k + 1)) n (2 ^ (k + 1)) low_n (omega arith) in
    let top : n * 2 ^ k < 2 ^ (suc j + k) = shl_below n (suc j) k high_n in
    let top_few : suc j + k ≤ 32 = omega arith in
    let top_power : 2 ^ (suc j + k) ≤ 2 ^ 32 = pow_mono top_few in
    record {
      after = omega arith;
      before = λ some. start_before n a k i j sum some low_a high_n;
      fits = omega arith;
    }

start : (n a k : ℕ) → 1 ≤ n → n < 2 ^ 32 → a < 2 ^ 31 → k ≡ count_leading_zeros 32 n - count_leading_zeros 32 a → Start n a k
start n zero k some small few e =
    let most : count_leading_zeros 32 n ≤ 32 = leading_le 32 n in
    start_low n 0 k (omega (arith, no_ones)) (omega arith) small
start n (suc a) k some small few e =
    let wide : suc a < 2 ^ 32 = omega arith in
    let positive : 0 < suc a = omega arith in
    let top_n = leading_top 32 n some small in
    let top_a = leading_top 32 (suc a) positive wide in
    let i : ℕ = top_a.0 in
    let j : ℕ = top_n.0 in
    elim (cases_lt i j) [
      | inl lower ↦
          let power : 2 ^ suc i ≤ 2 ^ j = pow_mono lower in
          start_low n (suc a) k (omega (arith, top_n.1, top_a.1)) (omega (arith, top_a.3, top_n.2)) small
      | inr higher ↦ start_high n (suc a) k i j (omega (arith, top_n.1, top_a.1)) (omega (arith, top_a.1)) top_a.2 top_a.3 top_n.2 top_n.3
    ]

-- ---- the code's two answers

far : (n a : ℕ) → 1 ≤ n → a < 2 ^ 31 → a ≤ n * 2 ^ 32
far n a some few = omega arith

pub found_above : (n a k : ℕ) → 1 ≤ n → n < 2 ^ 32 → a < 2 ^ 31 → k ≡ count_leading_zeros 32 n - count_leading_zeros 32 a → n * 2 ^ k % 2 ^ 32 < a
    → k + 1 ≡ golomb_parameter n a
found_above n a k some small few e less =
    let s = start n a k some small few e in
    let same : n * 2 ^ k % 2 ^ 32 ≡ n * 2 ^ k = mod-eq_of_lt s.fits in
    let back : k + 1 - 1 ≡ k = omega arith in
    is_least n a (k + 1) (far n a some few) s.after (λ h. subst (λ m. n * 2 ^ m < a) (sym back) (omega (arith, same)))

pub found_here : (n a k : ℕ) → 1 ≤ n → n < 2 ^ 32 → a < 2 ^ 31 → k ≡ count_leading_zeros 32 n - count_leading_zeros 32 a → a ≤ n * 2 ^ k % 2 ^ 32
    → k ≡ golomb_parameter n a
found_here n a k some small few e more =
    let s = start n a k some small few e in
    let same : n * 2 ^ k % 2 ^ 32 ≡ n * 2 ^ k = mod-eq_of_lt s.fits in
    is_least n a k (far n a some few) (omega (arith, same)) s.before

-- ---- by a quotient

before_quotient : (n a q k : ℕ) → 1 ≤ n → 1 ≤ k → 2 ^ k ≤ 2 * q + 1 → (1 ≤ q → n * q < a) → n * 2 ^ (k - 1) < a
before_quotient n a q zero some h low below = absurd (omega arith)
before_quotient n a q (suc k) some h low below =
    let doubled : 2 ^ suc k ≡ 2 ^ k * 2 = pow-suc 2 k in
    let positive : 0 < 2 ^ k = pow_pos k in
    let less : 2 ^ k ≤ q = omega arith in
    let scaled : n * 2 ^ k ≤ n * q = mul-le n (2 ^ k) n q (omega arith) less in
    let back : suc k - 1 ≡ k = omega arith in
    subst (λ m. n * 2 ^ m < a) (sym back) (omega (arith, below (omega arith)))

-- the exponent is the bit length of the quotient below a / n
pub by_quotient : (n a q k : ℕ) → 1 ≤ n → a < 2 ^ 31 → q < 2 ^ 32 → a ≤ n * (q + 1) → (1 ≤ q → n * q < a) → k ≡ 63 - count_leading_zeros 64 (2 * q + 1)
    → k ≡ golomb_parameter n a
by_quotient n a q k some few small above below e =
    let positive : 0 < 2 * q + 1 = omega arith in
    let wide : 2 * q + 1 < 2 ^ 64 = omega arith in
    let top = leading_top 64 (2 * q + 1) positive wide in
    let same : k ≡ top.0 = omega (arith, top.1) in
    let low : 2 ^ k ≤ 2 * q + 1 = subst (λ m. 2 ^ m ≤ 2 * q + 1) (sym same) top.2 in
    let high : 2 * q + 1 < 2 ^ suc k = subst (λ m. 2 * q + 1 < 2 ^ suc m) (sym same) top.3 in
    let doubled : 2 ^ suc k ≡ 2 ^ k * 2 = pow-suc 2 k in
    let more : q + 1 ≤ 2 ^ k = omega arith in
    let scaled : n * (q + 1) ≤ n * 2 ^ k = mul-le n (q + 1) n (2 ^ k) (omega arith) more in
    is_least n a k (far n a some few) (omega arith) (λ h. before_quotient n a q k some h low below)

-- a quotient computed as a product with a reciprocal
quotient_by : (n a whole rest q s : ℕ) → whole * n + rest ≡ 4294967295 → rest < n → q * n + s + 1 ≡ a → s < n → a * n < 4294967296 → a * whole / 4294967296 ≡ q
quotient_by n a whole rest q s e below f less small =
    let few : a ≤ whole = elim (cases_lt whole a) [
      | inl more ↦ absurd (omega (arith, mul-le (whole + 1) n a n (omega arith) (omega arith)))
      | inr enough ↦ enough
    ] in
    let product : (q * n + s + 1) * whole ≡ a * whole = ap (λ x. x * whole) f in
    let scaled : q * (whole * n + rest) ≡ q * 4294967295 = ap (λ x. q * x) e in
    let upper : (s + 1) * whole ≤ n * whole = mul-le (s + 1) whole n whole (omega arith) (omega arith) in
    let lower : q * (rest + 1) ≤ q * n = mul-le q (rest + 1) q n (omega arith) (omega arith) in
    let low : q * 4294967296 ≤ a * whole = omega arith in
    let high : a * whole < q * 4294967296 + 4294967296 = omega arith in
    omega arith

pub quotient_is : (n a : ℕ) → 1 ≤ n → a * n < 4294967296 → a * (4294967295 / n) / 4294967296 ≡ (a - 1) / n
quotient_is n zero some small =
    let none : 0 * (4294967295 / n) ≡ 0 = omega arith in
    let empty : 0 / n ≡ 0 = zero-div n in
    ap (λ x. x / 4294967296) none ∙ sym empty
quotient_is n (suc a) some small =
    let less : suc a - 1 ≡ a = omega arith in
    let parts : (a / n) * n + a % n ≡ a = div-add-mod' a n in
    quotient_by n (suc a) (4294967295 / n) (4294967295 % n) (a / n) (a % n) (div-add-mod' 4294967295 n) (mod_below 4294967295 n some) (omega arith) (mod_below a n some) small
    ∙ ap (λ x. x / n) (sym less)

pub found_by_quotient : (n a q k : ℕ) → 1 ≤ n → a < 2 ^ 31 → q < 2 ^ 32 → q ≡ (a - 1) / n → k ≡ 63 - count_leading_zeros 64 (2 * q + 1) → k ≡ golomb_parameter n a
found_by_quotient n a q k some few small e f =
    let parts : (a - 1) / n * n + (a - 1) % n ≡ a - 1 = div-add-mod' (a - 1) n in
    let rest : (a - 1) % n < n = mod_below (a - 1) n some in
    let scaled : q * n ≡ (a - 1) / n * n = ap (λ x. x * n) e in
    by_quotient n a q k some few small (omega arith)
    (λ h. let product : 1 * 1 ≤ q * n = mul-le 1 1 q n h some in omega arith)
    f

-- ---- the earlier parameter, which mostly stays

half_below : (n a k : ℕ) → n * 2 ^ k < a + a → 1 ≤ k → n * 2 ^ (k - 1) < a
half_below n a zero less some = absurd (omega arith)
half_below n a (suc k) less some =
    let doubled : 2 ^ suc k ≡ 2 ^ k * 2 = pow-suc 2 k in
    let scaled : n * 2 ^ suc k ≡ n * (2 ^ k * 2) = ap (λ m. n * m) doubled in
    let back : suc k - 1 ≡ k = omega arith in
    subst (λ m. n * 2 ^ m < a) (sym back) (omega (arith, less, scaled))

-- n * 2^k is at least a, and half of it isn't
pub kept : (n a k : ℕ) → 1 ≤ n → a < 2 ^ 31 → n * 2 ^ k < 2 ^ 32 → (n * 2 ^ k % 2 ^ 32 + (2 ^ 32 - a)) % 2 ^ 32 < a → k ≡ golomb_parameter n a
kept n a k some few fits less =
    let same : n * 2 ^ k % 2 ^ 32 ≡ n * 2 ^ k = mod-eq_of_lt fits in
    let reaches : a ≤ n * 2 ^ k = omega (arith, same, fits, less, few) in
    let half : n * 2 ^ k < a + a = omega (arith, same, fits, less, few) in
    is_least n a k (far n a some few) reaches (half_below n a k half)

-- for sound counters it is at most 16, and shifting by it loses no bits
pub shifts : (n a k m bound : ℕ) → k ≡ golomb_parameter n a → a ≤ n * bound → bound ≤ 65536 → m ≤ 65535 → (k < 32) × (m * 2 ^ k < 2 ^ 32)
shifts n a k m bound is sum small few =
    let scaled : n * bound ≤ n * 2 ^ 16 = mul-le n bound n (2 ^ 16) (omega arith) small in
    let least : golomb_parameter n a ≤ 16 = golomb_parameter-least n a 16 (omega (arith, sum, scaled)) in
    let low : k ≤ 16 = omega (arith, is, least) in
    let top : m * 2 ^ k ≤ m * 2 ^ 16 = grown m k 16 low in
    (omega (arith, low), omega (arith, top, few))

-- ---- the table of reciprocals

reciprocals-all : map (λ n. 4294967295 / n) (range_with_len 0 257) ≡ RECIPROCALS
reciprocals-all = refl

pub reciprocal_at : (n : ℕ) → n ≤ 256 → get_or RECIPROCALS n 0 ≡ 4294967295 / n
reciprocal_at n h =
    ap (λ list. get_or list n 0) (sym reciprocals-all) ∙ get_or-map-range_with_len (λ n. 4294967295 / n) 0 257 n n 0 (omega arith) (omega arith)
