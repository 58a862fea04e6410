-- Values that are sure to be those of samples.
use Rattle.std.proofs.Common.{◌≡◌, ℕ, ◌+◌, ◌-◌, ◌*◌, ◌/◌, ◌%◌, ◌^◌, ◌<◌, ◌≤◌, Bool, true, false, ℤ, pos, ◌+ℤ◌, ◌≤ℤ◌, ◌<ℤ◌, arith}
use Rattle.std.specs.Prelude.{int_le, unsigned_abs}
use Rattle.std.proofs.lemmas.Int.{ints}
use Rattle.std.proofs.lemmas.Nat.{pow_pos, mod_below, shr_split}
use Rattle.ls_frame.specs.Parameters.{Parameters, range_of}
use Rattle.ls_coding.specs.Errors.{IsReduced, mapped_error}
use Rattle.ls_coding.specs.View.SureZeros.{sure_zeros}
use Rattle.ls_coding.proofs.StatsLemmas.{choose, le_true, le_false}

product_most : (a b c : ℕ) → a ≤ b → a * c ≤ b * c
product_most a b c h = grind arith

-- a value whose word has few leading zeros is small
below_by_zeros : (value k most : ℕ) → value / 2 ^ k < most / 2 ^ k → value < most
below_by_zeros value k most h =
    let positive : 0 < 2 ^ k = pow_pos k in
    let whole : value / 2 ^ k * 2 ^ k + value % 2 ^ k ≡ value = shr_split value k in
    let other : most / 2 ^ k * 2 ^ k + most % 2 ^ k ≡ most = shr_split most k in
    let rest : value % 2 ^ k < 2 ^ k = mod_below value (2 ^ k) positive in
    let grown : (value / 2 ^ k + 1) * 2 ^ k ≤ most / 2 ^ k * 2 ^ k = product_most (value / 2 ^ k + 1) (most / 2 ^ k) (2 ^ k) (omega arith) in
    let more : (value / 2 ^ k + 1) * 2 ^ k ≡ value / 2 ^ k * 2 ^ k + 2 ^ k = grind arith in
    omega (arith, whole, other, rest, grown, more)

pub small_by_zeros : (p : Parameters) (value k : ℕ) → value / 2 ^ k < sure_zeros p k → value + 1 < range_of p.maxval
small_by_zeros p value k h =
    let below : value < range_of p.maxval - 1 = below_by_zeros value k (range_of p.maxval - 1) (omega arith) in
    omega (arith, below)

-- the error of a small value is a reduced one (A.4.5)
pub reduced_by_value : (range value : ℕ) (inverted : Bool) (e : ℤ) → mapped_error inverted e ≡ value → value + 1 < range → IsReduced range e
reduced_by_value range value true e is small =
    choose (int_le (pos 0) e) (2 * unsigned_abs e + 1) (2 * unsigned_abs (e +ℤ pos 1)) (λ n. n ≡ value → IsReduced range e)
    (λ up h. let above : pos 0 ≤ℤ e = le_true (pos 0) e up in record { low = omega (arith, ints, above, h); high = omega (arith, ints, above, h) })
    (λ down h. let below : e <ℤ pos 0 = le_false (pos 0) e down in record { low = omega (arith, ints, below, h); high = omega (arith, ints, below, h) })
    is
reduced_by_value range value false e is small =
    choose (int_le (pos 0) e) (2 * unsigned_abs e) (2 * unsigned_abs e - 1) (λ n. n ≡ value → IsReduced range e)
    (λ up h. let above : pos 0 ≤ℤ e = le_true (pos 0) e up in record { low = omega (arith, ints, above, h); high = omega (arith, ints, above, h) })
    (λ down h. let below : e <ℤ pos 0 = le_false (pos 0) e down in record { low = omega (arith, ints, below, h); high = omega (arith, ints, below, h) })
    is
