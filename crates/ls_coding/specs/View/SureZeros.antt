-- Code words whose value is sure to be that of a sample.
use Rattle.std.specs.Prelude.{◌≡◌, ℕ, ◌-◌, ◌/◌, ◌^◌, ◌<◌, min, List, length, slice_index}
use Rattle.ls_frame.specs.Parameters.{Parameters, range_of, limit_of, qbpp_of}
use Rattle.ls_bits.specs.Golomb.{escape_zeros}

-- a bound: a word of regular mode with fewer leading zeros is short, of at most 41 bits, and its value is that of a sample
abbrev pub sure_zeros : Parameters → ℕ → ℕ
sure_zeros p k = min 24 (min ((range_of p.maxval - 1) / 2 ^ k) (escape_zeros (limit_of p.maxval) (qbpp_of p.maxval)))

-- the bound for each Golomb parameter up to 17
pub record AreSure (p : Parameters) (zeros : List ℕ) : Type 0 where
  pub whole : length zeros ≡ 18
  pub each : (k : ℕ) → k < 18 → slice_index zeros k ≡ sure_zeros p k
