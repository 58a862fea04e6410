-- Bounds on the words of samples: k, the limit, the value, and so their length.
use Rattle.std.proofs.Common.{◌≡◌, ℕ, zero, suc, ◌+◌, ◌-◌, ◌*◌, ◌/◌, ◌^◌, ◌<◌, ◌≤◌, Bool, true, false, ℤ, pos, negsuc, ◌+ℤ◌, refl, arith}
use Rattle.std.specs.Prelude.{unsigned_abs, int_le}
use Rattle.std.proofs.lemmas.Int.{ints}
use Rattle.std.proofs.lemmas.Nat.{mul-le, pow_pos}
use Rattle.std.proofs.Math.Nat.{pow-suc}
use Rattle.std.proofs.Math.Pow.{pow_mono}
use Rattle.ls_frame.specs.Parameters.{range_of, qbpp_of, limit_of}
use Rattle.ls_frame.proofs.ExponentLemmas.{ceil_log2-reaches, ceil_log2-least}
use Rattle.ls_bits.specs.Golomb.{IsGolomb}
use Rattle.ls_coding.specs.Numbers.{golomb_parameter}
use Rattle.ls_coding.specs.Errors.{IsReduced, mapped_error}
use Rattle.ls_coding.specs.Stats.{Stats, error_bound, AreSound}
use Rattle.ls_coding.specs.Interruptions.{Counts, AreSoundCounts, interruption_k}
use Rattle.ls_coding.specs.Runs.{order}
use Rattle.ls_coding.proofs.GolombParameterLemmas.{golomb_parameter-least}
use Rattle.ls_coding.proofs.RunLemmas.{order_small}
use Rattle.ls_coding.proofs.StatsLemmas.{choose, le_false}

-- ---- parameters

-- the bits of an error: some, few, and enough
pub record AreBits (maxval q : ℕ) : Type 0 where
  pub some : 1 ≤ q
  pub few : q ≤ 16
  pub enough : range_of maxval ≤ 2 ^ q

some_bits : (maxval q : ℕ) → 0 < maxval → range_of maxval ≤ 2 ^ q → 1 ≤ q
some_bits maxval zero h k = absurd (omega arith)
some_bits maxval (suc q) h k = omega arith

pub qbpp_are : (maxval : ℕ) → 0 < maxval → maxval ≤ 65535 → AreBits maxval (qbpp_of maxval)
qbpp_are maxval some most =
    let small : range_of maxval ≤ 2 ^ 16 = omega arith in
    let enough : range_of maxval ≤ 2 ^ qbpp_of maxval = ceil_log2-reaches (range_of maxval) small in
    record { some = some_bits maxval (qbpp_of maxval) some enough; few = ceil_log2-least (range_of maxval) 16 small; enough = enough }

pub bound_fits : (maxval q : ℕ) → 0 < maxval → AreBits maxval q → error_bound maxval ≤ 2 ^ q
bound_fits maxval q some bits = omega (arith, bits.enough)

pub limit_small : (maxval q : ℕ) → q ≡ qbpp_of maxval → q ≤ 16 → limit_of maxval ≤ 64
limit_small maxval q e few = omega arith

pub limit_large : (maxval q : ℕ) → q ≡ qbpp_of maxval → q + 18 ≤ limit_of maxval
limit_large maxval q e = omega arith

-- ---- k

scaled : (a n bound q : ℕ) → a ≤ n * bound → bound ≤ 2 ^ q → a ≤ n * 2 ^ q
scaled a n bound q sum fits = let product : n * bound ≤ n * 2 ^ q = mul-le n bound n (2 ^ q) (omega arith) fits in omega arith

doubled : (n q : ℕ) → n * 2 ^ q + n * 2 ^ q ≡ n * 2 ^ suc q
doubled n q = let e : 2 ^ suc q ≡ 2 ^ q * 2 = pow-suc 2 q in rw e (omega arith)

some_power : (q : ℕ) → 1 ≤ 2 ^ q
some_power q = pow_pos q

half_more : (a n q : ℕ) → a ≤ n * 2 ^ q → a + n / 2 ≤ n * 2 ^ suc q
half_more a n q h =
    let power : n * 1 ≤ n * 2 ^ q = mul-le n 1 n (2 ^ q) (omega arith) (some_power q) in
    omega (arith, doubled n q)

pub regular_k : (reset maxval q : ℕ) (s : Stats) → 0 < maxval → AreBits maxval q → AreSound reset (error_bound maxval) s → golomb_parameter s.n s.a ≤ q
regular_k reset maxval q s some bits sound = golomb_parameter-least s.n s.a q (scaled s.a s.n (error_bound maxval) q sound.sum (bound_fits maxval q some bits))

pub interruption_k_small : (ri_type : Bool) (reset maxval q : ℕ) (s : Counts) → 0 < maxval → AreBits maxval q → AreSoundCounts reset (error_bound maxval) s → interruption_k ri_type s ≤ q + 1
interruption_k_small true reset maxval q s some bits sound =
    let fits : s.a ≤ s.n * 2 ^ q = scaled s.a s.n (error_bound maxval) q sound.sum (bound_fits maxval q some bits) in
    let k = golomb_parameter-least s.n (s.a + s.n / 2) (suc q) (half_more s.a s.n q fits) in
    omega arith
interruption_k_small false reset maxval q s some bits sound =
    let fits : s.a ≤ s.n * 2 ^ q = scaled s.a s.n (error_bound maxval) q sound.sum (bound_fits maxval q some bits) in
    let k = golomb_parameter-least s.n s.a q fits in
    omega arith

-- ---- the code

pub regular_code : (reset maxval : ℕ) (s : Stats) → 0 < maxval → maxval ≤ 65535 → AreSound reset (error_bound maxval) s
    → IsGolomb (golomb_parameter s.n s.a) (limit_of maxval) (qbpp_of maxval)
regular_code reset maxval s some most sound =
    let bits = qbpp_are maxval some most in
    let k = regular_k reset maxval (qbpp_of maxval) s some bits sound in
    let large = limit_large maxval (qbpp_of maxval) refl in
    let small = limit_small maxval (qbpp_of maxval) refl bits.few in
    record { some_zeros = omega (arith, large); small_k = omega (arith, k); small_qbpp = bits.few; small_glimit = small }

pub interruption_code : (ri_type : Bool) (reset maxval index : ℕ) (s : Counts) → 0 < maxval → maxval ≤ 65535 → AreSoundCounts reset (error_bound maxval) s
    → IsGolomb (interruption_k ri_type s) (limit_of maxval - order index - 1) (qbpp_of maxval)
interruption_code ri_type reset maxval index s some most sound =
    let bits = qbpp_are maxval some most in
    let k = interruption_k_small ri_type reset maxval (qbpp_of maxval) s some bits sound in
    let large = limit_large maxval (qbpp_of maxval) refl in
    let small = limit_small maxval (qbpp_of maxval) refl bits.few in
    let few = order_small index in
    record { some_zeros = omega (arith, large, few); small_k = omega (arith, k); small_qbpp = bits.few; small_glimit = omega (arith, small) }

-- ---- the value

mapped_error_small : (inverted : Bool) (range : ℕ) (e : ℤ) → IsReduced range e → mapped_error inverted e ≤ range
mapped_error_small true range (pos n) h =
    choose (int_le (pos 0) (pos n)) (2 * unsigned_abs (pos n) + 1) (2 * unsigned_abs (pos n +ℤ pos 1)) (λ v. v ≤ range) (λ e. omega (arith, ints, h.high)) (λ e. absurd (omega (arith, ints, le_false (pos 0) (pos n) e)))
mapped_error_small true range (negsuc n) h = omega (arith, ints, h.low)
mapped_error_small false range (pos n) h =
    choose (int_le (pos 0) (pos n)) (2 * unsigned_abs (pos n)) (2 * unsigned_abs (pos n) - 1) (λ v. v ≤ range) (λ e. omega (arith, ints, h.high)) (λ e. omega (arith, ints, h.high))
mapped_error_small false range (negsuc n) h = omega (arith, ints, h.low)

pub regular_value : (inverted : Bool) (maxval : ℕ) (e : ℤ) → 0 < maxval → maxval ≤ 65535 → IsReduced (range_of maxval) e → mapped_error inverted e ≤ 2 ^ qbpp_of maxval
regular_value inverted maxval e some most h = omega (arith, mapped_error_small inverted (range_of maxval) e h, (qbpp_are maxval some most).enough)

size_small : (range : ℕ) (e : ℤ) → IsReduced range e → 2 * unsigned_abs e ≤ range
size_small range (pos n) h = omega (arith, ints, h.high)
size_small range (negsuc n) h = omega (arith, ints, h.low)

less_off : (n x y : ℕ) → n - x - y ≤ n
less_off n x y = omega arith

pub interruption_value_small : (maxval x y : ℕ) (e : ℤ) → 0 < maxval → maxval ≤ 65535 → IsReduced (range_of maxval) e → 2 * unsigned_abs e - x - y ≤ 2 ^ qbpp_of maxval
interruption_value_small maxval x y e some most h =
    let size = size_small (range_of maxval) e h in
    let enough = (qbpp_are maxval some most).enough in
    omega (arith, less_off (2 * unsigned_abs e) x y)

-- a value that has a word is small
pub value_small : (maxval value : ℕ) → 0 < maxval → maxval ≤ 65535 → value ≤ 2 ^ qbpp_of maxval → value ≤ 65536
value_small maxval value some most h =
    let power : 2 ^ qbpp_of maxval ≤ 2 ^ 16 = pow_mono (qbpp_are maxval some most).few in
    omega arith
