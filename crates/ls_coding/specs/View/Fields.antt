-- How a state's arrays are seen as counters, and what always holds of them.
use Rattle.std.specs.Prelude.{◌≡◌, ℕ, ◌+◌, ◌<◌, ◌≤◌, ℤ, pos, List, map, slice_index, slice_index_or}
use Rattle.std.specs.List.{range_with_len}
use Rattle.ls_frame.specs.Parameters.{IsLegal, limit_of}
use Rattle.ls_coding.specs.declared.counters.Counters.{Counters}
use Rattle.ls_coding.specs.Numbers.{golomb_parameter}
use Rattle.ls_coding.specs.Stats.{Stats, AreSound, error_bound}
use Rattle.ls_coding.specs.Interruptions.{Counts, AreSoundCounts}

abbrev pub stats_at : List ℕ → List ℤ → List ℤ → List ℕ → ℕ → Stats
stats_at a b c n number = record {
  a = slice_index a number;
  b = slice_index_or b number (pos 0);
  c = slice_index_or c number (pos 0);
  n = slice_index n number;
}

unfoldable pub contexts_of : List ℕ → List ℤ → List ℤ → List ℕ → List Stats
contexts_of a b c n = map (stats_at a b c n) (range_with_len 0 365)

abbrev pub counts_at : List ℕ → List ℕ → List ℕ → ℕ → Counts
counts_at a n nn which = record {
  a = slice_index a (365 + which);
  n = slice_index n (365 + which);
  nn = slice_index nn which;
}

-- all counters in the arrays are sound, for a RESET and a bound on errors
pub record AreAllSound (reset bound : ℕ) (a : List ℕ) (b c : List ℤ) (n nn : List ℕ) : Type 0 where
  pub regular : (number : ℕ) → number < 365 → AreSound reset bound (stats_at a b c n number)
  pub ri_type_0 : AreSoundCounts reset bound (counts_at a n nn 0)
  pub ri_type_1 : AreSoundCounts reset bound (counts_at a n nn 1)

-- k has the Golomb parameters of the regular contexts' counters
abbrev pub AreParameters : List ℕ → List ℕ → List ℕ → Type 0
AreParameters k n a = (number : ℕ) → number < 365 → slice_index k number ≡ golomb_parameter (slice_index n number) (slice_index a number)

-- ---- the same, for a `Counters`

abbrev pub regular_at : Counters → ℕ → Stats
regular_at counters number = stats_at counters.a counters.b counters.c counters.n number

abbrev pub all_regular : Counters → List Stats
all_regular counters = contexts_of counters.a counters.b counters.c counters.n

abbrev pub interrupting_at : Counters → ℕ → Counts
interrupting_at counters which = counts_at counters.a counters.n counters.nn which

-- what always holds of a `Counters`
pub record IsSound (counters : Counters) : Type 0 where
  pub legal : IsLegal counters.presets
  pub limit_is : counters.limit ≡ limit_of counters.presets.maxval
  pub all : AreAllSound counters.presets.reset (error_bound counters.presets.maxval) counters.a counters.b counters.c counters.n counters.nn
  pub parameters : AreParameters counters.k counters.n counters.a

-- what always holds of a `State`
pub record IsSoundState (run_index : ℕ) (counters : Counters) : Type 0 where
  pub index : run_index ≤ 31
  pub sound : IsSound counters
