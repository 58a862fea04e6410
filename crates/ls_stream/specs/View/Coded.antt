-- The bits of spans, coded from a given state on, and the state after them.
use Rattle.std.specs.Prelude.{ℕ, ◌+◌, Bool, true, false, List, [], ◌∷◌, ◌++◌}
use Rattle.ls_coding.specs.Interruptions.{ri_type_of, interruption_error}
use Rattle.ls_coding.specs.Runs.{run_of, run_bits}
use Rattle.ls_coding.specs.Events.{golomb_bits}
use Rattle.ls_coding.specs.View.States.{Coding, context_in, regular_error_in, regular_word_in, regular_after, run_after, interruption_word_in, interruption_after}
use Rattle.ls_stream.specs.Planes.{Plane, at, around, Span, sample_span, run_span}

-- in a row and a column: a sample in regular mode, and the sample that interrupts a run
abbrev pub sample_bits_in : Plane → ℕ → ℕ → Coding → List Bool
sample_bits_in plane i j state = golomb_bits state.parameters (regular_word_in state (around plane i j) (at plane i j))

abbrev pub sample_after : Plane → ℕ → ℕ → Coding → Coding
sample_after plane i j state = regular_after state (context_in state (around plane i j)).number (regular_error_in state (around plane i j) (at plane i j))

abbrev pub interrupting_sample_bits_in : Plane → ℕ → ℕ → Coding → List Bool
interrupting_sample_bits_in plane i j state = golomb_bits state.parameters (interruption_word_in state (around plane i j) (at plane i j))

abbrev pub interrupting_sample_after : Plane → ℕ → ℕ → Coding → Coding
interrupting_sample_after plane i j state = interruption_after state (ri_type_of (around plane i j)) (interruption_error state.parameters (around plane i j) (at plane i j))

-- a span
abbrev pub span_bits_in : Plane → Span → Coding → List Bool
span_bits_in plane (sample_span i j) state = sample_bits_in plane i j state
span_bits_in plane (run_span i j count true) state = run_bits state.run_index (run_of count true) ++ interrupting_sample_bits_in plane i (j + count) (run_after state (run_of count true))
span_bits_in plane (run_span i j count false) state = run_bits state.run_index (run_of count false)

abbrev pub span_after : Plane → Span → Coding → Coding
span_after plane (sample_span i j) state = sample_after plane i j state
span_after plane (run_span i j count true) state = interrupting_sample_after plane i (j + count) (run_after state (run_of count true))
span_after plane (run_span i j count false) state = run_after state (run_of count false)

-- spans
unfoldable pub bits_from : Plane → List Span → Coding → List Bool
bits_from plane [] state = []
bits_from plane (span ∷ more) state = span_bits_in plane span state ++ bits_from plane more (span_after plane span state)

-- the bits so far, followed by those of the spans to come
abbrev pub all_from : Plane → List Bool → Coding → List Span → List Bool
all_from plane bits state more = bits ++ bits_from plane more state

-- a scan that is being written: the `Room` for its bytes, the state of its coding, the bytes before the scan, the capacity for more, and
-- the scan's bits so far
pub record Written (R : Type 0) : Type 0 where
  pub room : R
  pub state : Coding
  pub front : List ℕ
  pub capacity_left : ℕ
  pub bits : List Bool
