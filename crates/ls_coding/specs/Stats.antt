-- The counters of the regular contexts (T.87 A.2.1, A.6), for NEAR 0.
use Rattle.std.specs.Prelude.{ℕ, ◌*◌, ◌≤◌, ◌<ℤ◌, ◌≤ℤ◌, ◌+◌, ◌/◌, ◌==◌, max, if◌then◌else◌, ℤ, pos, neg_ℤ, ◌+ℤ◌, ◌-ℤ◌, int_lt, int_le, unsigned_abs, List, fold}
use Rattle.ls_frame.specs.Parameters.{Parameters, range_of}
use Rattle.ls_coding.specs.Numbers.{halved}

-- A, B, C and N of a context
pub record Stats : Type 0 where
  pub a : ℕ
  pub b : ℤ
  pub c : ℤ
  pub n : ℕ

abbrev pub stats : ℕ → ℤ → ℤ → ℕ → Stats
stats a b c n = record { a = a; b = b; c = c; n = n }

-- a bound on the magnitude of reduced errors, and on A at a scan's start
abbrev pub error_bound : ℕ → ℕ
error_bound maxval = max 2 (range_of maxval / 2)

-- sound counters: N is from 1 to RESET, A is at most N * bound, B is above -N and at most 0, C is from -128 to 127
pub record AreSound (reset bound : ℕ) (counters : Stats) : Type 0 where
  pub some : 1 ≤ counters.n
  pub few : counters.n ≤ reset
  pub sum : counters.a ≤ counters.n * bound
  pub mean_low : neg_ℤ (pos counters.n) <ℤ counters.b
  pub mean_high : counters.b ≤ℤ pos 0
  pub bias_low : neg_ℤ (pos 128) ≤ℤ counters.c
  pub bias_high : counters.c ≤ℤ pos 127

-- A at a scan's start (A.2.1)
abbrev pub first_a : Parameters → ℕ
first_a p = max 2 ((range_of p.maxval + 32) / 64)

abbrev pub first_stats : Parameters → Stats
first_stats p = record { a = first_a p; b = pos 0; c = pos 0; n = 1 }

-- A and B with one more error added (A.6.1)
abbrev pub added : Stats → ℤ → Stats
added before e = record { a = before.a + unsigned_abs e; b = before.b +ℤ e; c = before.c; n = before.n }

-- halved if N is RESET; then N rises by 1 (A.6.1)
abbrev pub counted : ℕ → Stats → Stats
counted reset before =
    if before.n == reset
    then record { a = before.a / 2; b = halved before.b; c = before.c; n = before.n / 2 + 1 }
    else record { a = before.a; b = before.b; c = before.c; n = before.n + 1 }

-- C and B corrected by the mean error (A.6.2)
abbrev pub least_c : ℤ
least_c = neg_ℤ (pos 128)

abbrev pub most_c : ℤ
most_c = pos 127

abbrev pub lowered : Stats → Stats
lowered before = let b = before.b +ℤ pos before.n in record {
  a = before.a;
  b = if int_le b (neg_ℤ (pos before.n)) then pos 1 -ℤ pos before.n else b;
  c = if int_lt least_c before.c then before.c -ℤ pos 1 else before.c;
  n = before.n;
}

abbrev pub raised : Stats → Stats
raised before = let b = before.b -ℤ pos before.n in record {
  a = before.a;
  b = if int_lt (pos 0) b then pos 0 else b;
  c = if int_lt before.c most_c then before.c +ℤ pos 1 else before.c;
  n = before.n;
}

abbrev pub bias_corrected : Stats → Stats
bias_corrected before = if int_le before.b (neg_ℤ (pos before.n)) then lowered before else (if int_lt (pos 0) before.b then raised before else before)

-- the counters of a context after one more error
unfoldable pub stats_step : ℕ → Stats → ℤ → Stats
stats_step reset before e = bias_corrected (counted reset (added before e))

-- the counters of a context after these errors
abbrev pub stats_after : Parameters → List ℤ → Stats
stats_after p errors = fold (stats_step p.reset) (first_stats p) errors
