-- The coding parameters of T.87 (A.2.1, C.2.4.1), with NEAR 0.
use Rattle.std.specs.Prelude.{ℕ, zero, suc, ◌+◌, ◌*◌, ◌/◌, ◌^◌, ◌<◌, ◌≤◌, min, max, ◌||◌, ◌==◌, nat_lt, nat_le, if◌then◌else◌, Option, None, Some, Result, Ok, Err}
use Rattle.ls_frame.specs.declared.presets.PresetFault.{PresetFault}
use Rattle.ls_frame.specs.declared.presets.PresetFault.TheVariants.{MaxvalRange, T1Range, T2Range, T3Range, ResetRange}

-- The coding parameters of a scan.
pub record Parameters : Type 0 where
  pub maxval : ℕ
  pub t1 : ℕ
  pub t2 : ℕ
  pub t3 : ℕ
  pub reset : ℕ

-- RANGE (A.2.1)
abbrev pub range_of : ℕ → ℕ
range_of maxval = maxval + 1

-- the first exponent from q on whose power of two is at least n; after this many tries, the exponent reached by then
abbrev pub first_reaching : ℕ → ℕ → ℕ → ℕ
first_reaching zero q n = q
first_reaching (suc tries) q n = if nat_le n (2 ^ q) then q else first_reaching tries (suc q) n

-- for n up to 2 ^ 16, the least exponent whose power of two is at least n: log2 n rounded up
unfoldable pub ceil_log2 : ℕ → ℕ
ceil_log2 n = first_reaching 16 0 n

-- qbpp (A.2.1): the number of bits of a mapped error
abbrev pub qbpp_of : ℕ → ℕ
qbpp_of maxval = ceil_log2 (range_of maxval)

-- bpp (A.2.1): the number of bits of a sample, at least 2
abbrev pub bpp_of : ℕ → ℕ
bpp_of maxval = max 2 (ceil_log2 (maxval + 1))

-- LIMIT (A.2.1): the maximum length of a code word in regular mode, in bits
abbrev pub limit_of : ℕ → ℕ
limit_of maxval = 2 * (bpp_of maxval + max 8 (bpp_of maxval))

-- CLAMP_i of C.2.4.1.1.1: v, or low if v is outside low to maxval
abbrev pub clamped_threshold : ℕ → ℕ → ℕ → ℕ
clamped_threshold v low maxval = if nat_lt maxval v || nat_lt v low then low else v

-- FACTOR of C.2.4.1.1.1, for a maxval from 128; below, for a smaller one
abbrev pub large_factor : ℕ → ℕ
large_factor maxval = (min maxval 4095 + 128) / 256

abbrev pub small_factor : ℕ → ℕ
small_factor maxval = 256 / (maxval + 1)

-- the default thresholds before they are clamped (C.2.4.1.1.1)
abbrev pub unclamped_thresholds : ℕ → ℕ × ℕ × ℕ
unclamped_thresholds maxval =
    if nat_le 128 maxval
    then (large_factor maxval + 2, 4 * large_factor maxval + 3, 17 * large_factor maxval + 4)
    else (max 2 (3 / small_factor maxval), max 3 (7 / small_factor maxval), max 4 (21 / small_factor maxval))

-- the default thresholds (C.2.4.1.1.1), each clamped to the range from the one before (1 for T1) to maxval
abbrev pub default_t1 : ℕ → ℕ
default_t1 maxval = clamped_threshold (unclamped_thresholds maxval).0 1 maxval

abbrev pub default_t2 : ℕ → ℕ
default_t2 maxval = clamped_threshold (unclamped_thresholds maxval).1 (default_t1 maxval) maxval

abbrev pub default_t3 : ℕ → ℕ
default_t3 maxval = clamped_threshold (unclamped_thresholds maxval).2 (default_t2 maxval) maxval

-- the default of RESET (C.2.4.1.1)
abbrev pub default_reset : ℕ
default_reset = 64

-- the default parameters for a maxval, which apply if a codestream doesn't specify them (C.2.4.1.1)
unfoldable pub default_parameters : ℕ → Parameters
default_parameters maxval = record {
  maxval = maxval;
  t1 = default_t1 maxval;
  t2 = default_t2 maxval;
  t3 = default_t3 maxval;
  reset = default_reset;
}

-- the ranges of Table C.2
pub record IsLegal (p : Parameters) : Type 0 where
  pub some_maxval : 0 < p.maxval
  pub maxval : p.maxval ≤ 65535
  pub some_t1 : 0 < p.t1
  pub t1 : p.t1 ≤ p.maxval
  pub some_t2 : p.t1 ≤ p.t2
  pub t2 : p.t2 ≤ p.maxval
  pub some_t3 : p.t2 ≤ p.t3
  pub t3 : p.t3 ≤ p.maxval
  pub some_reset : 3 ≤ p.reset
  pub reset : p.reset ≤ max 255 p.maxval

-- why parameters aren't legal: the first of these faults that they have
abbrev pub preset_fault : Parameters → Option PresetFault
preset_fault p =
    if p.maxval == 0 then Some MaxvalRange
    else (if p.t1 == 0 || nat_lt p.maxval p.t1 then Some T1Range
    else (if nat_lt p.t2 p.t1 || nat_lt p.maxval p.t2 then Some T2Range
    else (if nat_lt p.t3 p.t2 || nat_lt p.maxval p.t3 then Some T3Range
    else (if nat_lt p.reset 3 || nat_lt (max 255 p.maxval) p.reset then Some ResetRange
    else None))))

-- the parameters, or the fault if there is one
abbrev pub unless_fault : Option PresetFault → Parameters → Result Parameters PresetFault
unless_fault None p = Ok p
unless_fault (Some fault) p = Err fault

-- the parameters as given (a 0 doesn't stand for a default), or why they aren't legal
unfoldable pub explicit_parameters : Parameters → Result Parameters PresetFault
explicit_parameters p = unless_fault (preset_fault p) p
