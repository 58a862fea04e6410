-- A plane, the spans that its rows are cut into, and the bits that code them (T.87 Annex A), with NEAR 0. A plane is a width and a list of
-- samples, rows from the top; rows and columns count from 0.
use Rattle.std.specs.Prelude.{◌≡◌, ◌≢◌, ◌<◌, ◌≤◌, ℕ, zero, suc, ◌+◌, ◌-◌, ◌*◌, ◌/◌, ◌==◌, nat_lt, nat_le, Bool, true, false, if◌then◌else◌, List, [], ◌∷◌, ◌++◌, length, slice_index}
use Rattle.std.specs.List.{range_with_len}
use Rattle.ls_frame.specs.Parameters.{Parameters}
use Rattle.ls_coding.specs.declared.neighbours.Neighbours.{Neighbours}
use Rattle.ls_coding.specs.Contexts.{Context, is_run, context_of}
use Rattle.ls_coding.specs.Stats.{Stats}
use Rattle.ls_coding.specs.Interruptions.{Counts, ri_type_of, interruption_error}
use Rattle.ls_coding.specs.Runs.{run_of, run_bits, index_at}
use Rattle.ls_coding.specs.Events.{Event, regular, run, interruption, stats_after_events, counts_after_events, run_index_after_events, regular_error_of, regular_word, interruption_word, golomb_bits}

pub record Plane : Type 0 where
  pub width : ℕ
  pub samples : List ℕ

-- a plane of this width and height, with samples of at most maxval
pub record IsSamplePlane (maxval width height : ℕ) (plane : Plane) : Type 0 where
  pub width_is : plane.width ≡ width
  pub count : length plane.samples ≡ height * width
  pub small : (k : ℕ) → slice_index plane.samples k ≤ maxval

-- ---- the neighbours of a sample (Figure A.1, A.2.1)

-- the sample in a row and a column
abbrev pub at : Plane → ℕ → ℕ → ℕ
at plane i j = slice_index plane.samples (i * plane.width + j)

-- Rb: the sample above; 0 on the first line
abbrev pub above : Plane → ℕ → ℕ → ℕ
above plane zero j = 0
above plane (suc i) j = at plane i j

-- Ra: the sample to the left; in the first column Rb
abbrev pub left : Plane → ℕ → ℕ → ℕ
left plane i zero = above plane i 0
left plane i (suc j) = at plane i j

-- Rc: the sample above to the left; in the first column what Ra was for the first sample of the line above
abbrev pub above_left : Plane → ℕ → ℕ → ℕ
above_left plane zero j = 0
above_left plane (suc i) zero = left plane i zero
above_left plane (suc i) (suc j) = at plane i j

-- Rd: the sample above to the right; in the last column Rb
abbrev pub above_right : Plane → ℕ → ℕ → ℕ
above_right plane i j = if nat_lt (j + 1) plane.width then above plane i (j + 1) else above plane i j

unfoldable pub around : Plane → ℕ → ℕ → Neighbours
around plane i j = record { a = left plane i j; b = above plane i j; c = above_left plane i j; d = above_right plane i j }

-- ---- spans (A.3.2, A.7)

-- What a row is cut into from the left: a sample in regular mode; or, from a column in run mode, the longest run of samples that equal its
-- Ra, and the sample that interrupts it if the row has one.
pub data Span : Type 0 where
  sample_span : (row column : ℕ) → Span
  run_span : (row column count : ℕ) → (interrupted : Bool) → Span

-- how many consecutive samples, from a column on, equal a value; at most `most` are looked at
abbrev pub equal_from : Plane → ℕ → ℕ → ℕ → ℕ → ℕ
equal_from plane i value zero j = 0
equal_from plane i value (suc most) j = if at plane i j == value then suc (equal_from plane i value most (suc j)) else 0

abbrev pub run_length : Plane → ℕ → ℕ → ℕ
run_length plane i j = equal_from plane i (left plane i j) (plane.width - j) j

-- from a column on, `count` consecutive samples equal a value; at most `most` are looked at, and the next of these, if there is one,
-- doesn't
pub record IsLongest (plane : Plane) (i value most j count : ℕ) : Type 0 where
  pub few : count ≤ most
  pub equal : (k : ℕ) → k < count → at plane i (j + k) ≡ value
  pub other : count < most → at plane i (j + count) ≢ value

-- the spans of a row from a column on, at most `most` of them
abbrev pub cut : Plane → ℕ → ℕ → ℕ → List Span
cut plane i zero j = []
cut plane i (suc most) j =
    if nat_le plane.width j then []
    else (if is_run (around plane i j)
    then run_span i j (run_length plane i j) (nat_lt (j + run_length plane i j) plane.width) ∷ cut plane i most (j + run_length plane i j + 1)
    else sample_span i j ∷ cut plane i most (j + 1))

unfoldable pub row_spans : Plane → ℕ → List Span
row_spans plane i = cut plane i plane.width 0

-- the spans of a row from a column on
unfoldable pub row_from : Plane → ℕ → ℕ → List Span
row_from plane i j = cut plane i (plane.width - j) j

-- the spans of `count` rows from a row on
abbrev pub rows_from : Plane → ℕ → ℕ → List Span
rows_from plane zero i = []
rows_from plane (suc count) i = row_spans plane i ++ rows_from plane count (suc i)

unfoldable pub spans : Plane → List Span
spans plane = rows_from plane (length plane.samples / plane.width) 0

-- the columns of a span: those of its run, and that of the sample that interrupts it
abbrev pub span_columns : Span → List ℕ
span_columns (sample_span i j) = j ∷ []
span_columns (run_span i j count true) = range_with_len j (count + 1)
span_columns (run_span i j count false) = range_with_len j count

-- ---- the bits of spans

-- a sample in regular mode, after these events
abbrev pub sample_context : Parameters → Plane → ℕ → ℕ → Context
sample_context p plane i j = context_of p (around plane i j)

abbrev pub sample_stats : Parameters → Plane → ℕ → ℕ → List Event → Stats
sample_stats p plane i j events = stats_after_events p (sample_context p plane i j).number events

unfoldable pub sample_event : Parameters → Plane → ℕ → ℕ → List Event → Event
sample_event p plane i j events =
    regular (sample_context p plane i j).number
    (regular_error_of p (sample_context p plane i j) (sample_stats p plane i j events) (around plane i j) (at plane i j))

unfoldable pub sample_bits : Parameters → Plane → ℕ → ℕ → List Event → List Bool
sample_bits p plane i j events =
    golomb_bits p (regular_word p (sample_stats p plane i j events)
    (regular_error_of p (sample_context p plane i j) (sample_stats p plane i j events) (around plane i j) (at plane i j)))

-- the sample that interrupts a run, after it: by the counters before the run, and by RUNindex after the run's bits
abbrev pub interrupting_sample_counts : Parameters → Plane → ℕ → ℕ → List Event → Counts
interrupting_sample_counts p plane i j events = counts_after_events p (ri_type_of (around plane i j)) events

unfoldable pub interrupting_sample_event : Parameters → Plane → ℕ → ℕ → Event
interrupting_sample_event p plane i j = interruption (ri_type_of (around plane i j)) (interruption_error p (around plane i j) (at plane i j))

unfoldable pub interrupting_sample_bits : Parameters → Plane → ℕ → ℕ → ℕ → List Event → List Bool
interrupting_sample_bits p plane i j index events =
    golomb_bits p (interruption_word p index (ri_type_of (around plane i j)) (interrupting_sample_counts p plane i j events)
    (interruption_error p (around plane i j) (at plane i j)))

-- the events of a span and its bits, after these events
abbrev pub span_events : Parameters → Plane → Span → List Event → List Event
span_events p plane (sample_span i j) events = sample_event p plane i j events ∷ []
span_events p plane (run_span i j count true) events = run (run_of count true) ∷ interrupting_sample_event p plane i (j + count) ∷ []
span_events p plane (run_span i j count false) events = run (run_of count false) ∷ []

abbrev pub span_bits : Parameters → Plane → Span → List Event → List Bool
span_bits p plane (sample_span i j) events = sample_bits p plane i j events
span_bits p plane (run_span i j count true) events =
    run_bits (run_index_after_events events) (run_of count true) ++ interrupting_sample_bits p plane i (j + count) (index_at (run_index_after_events events) (run_of count true)) events
span_bits p plane (run_span i j count false) events = run_bits (run_index_after_events events) (run_of count false)

-- the bits of spans, after these events
unfoldable pub coded : Parameters → Plane → List Span → List Event → List Bool
coded p plane [] events = []
coded p plane (span ∷ more) events =
    span_bits p plane span events ++ coded p plane more (events ++ span_events p plane span events)

-- the bits of a plane
unfoldable pub plane_bits : Parameters → Plane → List Bool
plane_bits p plane = coded p plane (spans plane) []
