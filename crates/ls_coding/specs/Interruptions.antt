-- The run interruption sample (T.87 A.7.2), for NEAR 0.
use Rattle.std.specs.Prelude.{ℕ, ◌+◌, ◌-◌, ◌*◌, ◌/◌, ◌==◌, ◌&&◌, ◌||◌, ◌<◌, ◌≤◌, nat_lt, nat_le, not, Bool, if◌then◌else◌, ℤ, pos, ◌-ℤ◌, int_lt, unsigned_abs, List, fold}
use Rattle.ls_frame.specs.Parameters.{Parameters, range_of}
use Rattle.ls_coding.specs.declared.neighbours.Neighbours.{Neighbours}
use Rattle.ls_coding.specs.Numbers.{golomb_parameter}
use Rattle.ls_coding.specs.Contexts.{signed}
use Rattle.ls_coding.specs.Errors.{reduced}
use Rattle.ls_coding.specs.Stats.{first_a}

-- A, N and Nn of one of the two run interruption contexts
pub record Counts : Type 0 where
  pub a : ℕ
  pub n : ℕ
  pub nn : ℕ

abbrev pub counts : ℕ → ℕ → ℕ → Counts
counts a n nn = record { a = a; n = n; nn = nn }

-- sound counters: N is from 1 to RESET, A is at most N * bound, and fewer than N errors are negative
pub record AreSoundCounts (reset bound : ℕ) (counters : Counts) : Type 0 where
  pub some : 1 ≤ counters.n
  pub few : counters.n ≤ reset
  pub sum : counters.a ≤ counters.n * bound
  pub negative : counters.nn < counters.n

abbrev pub first_counts : Parameters → Counts
first_counts p = record { a = first_a p; n = 1; nn = 0 }

-- RItype is 1 if Ra and Rb are equal
abbrev pub ri_type_of : Neighbours → Bool
ri_type_of neighbours = neighbours.a == neighbours.b

abbrev pub ri_value : Bool → ℕ
ri_value ri_type = if ri_type then 1 else 0

-- the prediction is Ra if Ra and Rb are equal, else Rb
abbrev pub interruption_prediction : Neighbours → ℕ
interruption_prediction neighbours = if ri_type_of neighbours then neighbours.a else neighbours.b

-- the sign of the error is changed if RItype is 0 and Ra is greater than Rb
abbrev pub interruption_negative : Neighbours → Bool
interruption_negative neighbours = not (ri_type_of neighbours) && nat_lt neighbours.b neighbours.a

abbrev pub interruption_error : Parameters → Neighbours → ℕ → ℤ
interruption_error p neighbours sample = reduced (range_of p.maxval) (signed (interruption_negative neighbours) (pos sample -ℤ pos (interruption_prediction neighbours)))

-- the Golomb parameter of N and TEMP
abbrev pub interruption_k : Bool → Counts → ℕ
interruption_k ri_type counters = golomb_parameter counters.n (if ri_type then counters.a + counters.n / 2 else counters.a)

-- map
abbrev pub map_of : ℕ → Counts → ℤ → ℕ
map_of k counters e =
    if (k == 0 && int_lt (pos 0) e && nat_lt (2 * counters.nn) counters.n)
    || (int_lt e (pos 0) && nat_le counters.n (2 * counters.nn))
    || (int_lt e (pos 0) && not (k == 0))
    then 1 else 0

-- EMErrval, the mapped error of a run interruption sample
abbrev pub interruption_value : Bool → Counts → ℤ → ℕ
interruption_value ri_type counters e = 2 * unsigned_abs e - ri_value ri_type - map_of (interruption_k ri_type counters) counters e

-- the counters after one more error: it is added; all are halved if N is RESET; then N rises by 1
abbrev pub counts_added : Bool → Counts → ℤ → Counts
counts_added ri_type before e = record {
  a = before.a + (interruption_value ri_type before e + 1 - ri_value ri_type) / 2;
  n = before.n;
  nn = if int_lt e (pos 0) then before.nn + 1 else before.nn;
}

abbrev pub counts_counted : ℕ → Counts → Counts
counts_counted reset before =
    if before.n == reset
    then record { a = before.a / 2; n = before.n / 2 + 1; nn = before.nn / 2 }
    else record { a = before.a; n = before.n + 1; nn = before.nn }

unfoldable pub counts_step : Bool → ℕ → Counts → ℤ → Counts
counts_step ri_type reset before e = counts_counted reset (counts_added ri_type before e)

-- the counters of a context after these errors
abbrev pub counts_after : Parameters → Bool → List ℤ → Counts
counts_after p ri_type errors = fold (counts_step ri_type p.reset) (first_counts p) errors
