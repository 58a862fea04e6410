-- The model of a `State`, and its value after events (T.87 A.2.1).
use Rattle.std.specs.Prelude.{◌≡◌, ℕ, ◌-◌, Bool, true, false, if◌then◌else◌, ℤ, pos, List, [], ◌∷◌, ◌++◌, map, slice_set, slice_index_or}
use Rattle.std.specs.List.{range_with_len}
use Rattle.ls_frame.specs.Parameters.{Parameters}
use Rattle.ls_coding.specs.declared.neighbours.Neighbours.{Neighbours}
use Rattle.ls_coding.specs.declared.word.Word.{Word}
use Rattle.ls_coding.specs.Contexts.{Context, context_of}
use Rattle.ls_coding.specs.Stats.{Stats, stats, stats_step}
use Rattle.ls_coding.specs.Interruptions.{Counts, counts_step, ri_type_of, interruption_error}
use Rattle.ls_coding.specs.Runs.{Run, index_at}
use Rattle.ls_coding.specs.Events.{Event, regular, interruption, stats_after_events, counts_after_events, run_index_after_events, interrupted_after_events, regular_error_of, regular_word, interruption_word}

pub record Coding : Type 0 where
  pub parameters : Parameters
  -- the counters of the regular contexts, by their numbers
  pub contexts : List Stats
  -- those of the samples that interrupt a run: where Ra and Rb differ (365 in T.87), and where they are equal (366)
  pub ri_type_0 : Counts
  pub ri_type_1 : Counts
  pub run_index : ℕ
  -- whether the sample that interrupts a run comes next
  pub interrupted : Bool

-- the number of regular contexts
abbrev pub context_count : ℕ
context_count = 365

-- the state after events
unfoldable pub state_of : Parameters → List Event → Coding
state_of p events = record {
  parameters = p;
  contexts = map (λ number. stats_after_events p number events) (range_with_len 0 context_count);
  ri_type_0 = counts_after_events p false events;
  ri_type_1 = counts_after_events p true events;
  run_index = run_index_after_events events;
  interrupted = interrupted_after_events events;
}

-- ---- a sample of regular mode

abbrev pub stats_in : Coding → ℕ → Stats
stats_in state number = slice_index_or state.contexts number (stats 0 (pos 0) (pos 0) 0)

abbrev pub context_in : Coding → Neighbours → Context
context_in state neighbours = context_of state.parameters neighbours

-- its error and its word
unfoldable pub regular_error_in : Coding → Neighbours → ℕ → ℤ
regular_error_in state neighbours sample = regular_error_of state.parameters (context_in state neighbours) (stats_in state (context_in state neighbours).number) neighbours sample

unfoldable pub regular_word_in : Coding → Neighbours → ℕ → Word
regular_word_in state neighbours sample = regular_word state.parameters (stats_in state (context_in state neighbours).number) (regular_error_in state neighbours sample)

-- the state after it
abbrev pub regular_after : Coding → ℕ → ℤ → Coding
regular_after state number e = record {
  parameters = state.parameters;
  contexts = slice_set state.contexts number (stats_step state.parameters.reset (stats_in state number) e);
  ri_type_0 = state.ri_type_0;
  ri_type_1 = state.ri_type_1;
  run_index = state.run_index;
  interrupted = state.interrupted;
}

-- a sample of regular mode that follows these events, its word, and the state after it
pub record IsRegularEvent (p : Parameters) (events : List Event) (neighbours : Neighbours) (sample : ℕ) (word : Word) (after : Coding) : Type 0 where
  pub word_is : word ≡ regular_word p (stats_after_events p (context_of p neighbours).number events)
      (regular_error_of p (context_of p neighbours) (stats_after_events p (context_of p neighbours).number events) neighbours sample)
  pub after_is : after ≡ state_of p (events ++ regular (context_of p neighbours).number
      (regular_error_of p (context_of p neighbours) (stats_after_events p (context_of p neighbours).number events) neighbours sample) ∷ [])

-- ---- a run

abbrev pub run_after : Coding → Run → Coding
run_after state run = record {
  parameters = state.parameters;
  contexts = state.contexts;
  ri_type_0 = state.ri_type_0;
  ri_type_1 = state.ri_type_1;
  run_index = index_at state.run_index run;
  interrupted = run.interrupted;
}

-- ---- the sample that interrupts a run

abbrev pub counts_in : Coding → Bool → Counts
counts_in state ri_type = if ri_type then state.ri_type_1 else state.ri_type_0

unfoldable pub interruption_word_in : Coding → Neighbours → ℕ → Word
interruption_word_in state neighbours sample = interruption_word state.parameters state.run_index (ri_type_of neighbours) (counts_in state (ri_type_of neighbours)) (interruption_error state.parameters neighbours sample)

abbrev pub interruption_after : Coding → Bool → ℤ → Coding
interruption_after state ri_type e = record {
  parameters = state.parameters;
  contexts = state.contexts;
  ri_type_0 = if ri_type then state.ri_type_0 else counts_step false state.parameters.reset state.ri_type_0 e;
  ri_type_1 = if ri_type then counts_step true state.parameters.reset state.ri_type_1 e else state.ri_type_1;
  run_index = state.run_index - 1;
  interrupted = false;
}

-- the sample that interrupts a run and follows these events, its word, and the state after it
pub record IsInterruptionEvent (p : Parameters) (events : List Event) (neighbours : Neighbours) (sample : ℕ) (word : Word) (after : Coding) : Type 0 where
  pub word_is : word ≡ interruption_word p (run_index_after_events events) (ri_type_of neighbours) (counts_after_events p (ri_type_of neighbours) events) (interruption_error p neighbours sample)
  pub after_is : after ≡ state_of p (events ++ interruption (ri_type_of neighbours) (interruption_error p neighbours sample) ∷ [])
