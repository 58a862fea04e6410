-- The events of a scan, and the state after them (T.87 A.2 to A.7).
use Rattle.std.specs.Prelude.{ℕ, ◌-◌, ◌==◌, Bool, true, false, if◌then◌else◌, ℤ, List, fold, filter_map, Option, Some, None}
use Rattle.ls_frame.specs.Parameters.{Parameters, qbpp_of, limit_of}
use Rattle.ls_bits.specs.Golomb.{code_word}
use Rattle.ls_coding.specs.declared.neighbours.Neighbours.{Neighbours}
use Rattle.ls_coding.specs.declared.word.Word.{Word}
use Rattle.ls_coding.specs.Numbers.{golomb_parameter}
use Rattle.ls_coding.specs.Contexts.{Context}
use Rattle.ls_coding.specs.Errors.{predicted, error_of, is_inverted, mapped_error}
use Rattle.ls_coding.specs.Stats.{Stats, stats_after}
use Rattle.ls_coding.specs.Interruptions.{Counts, counts_after, interruption_k, interruption_value}
use Rattle.ls_coding.specs.Runs.{Run, index_at, order}

-- a sample of regular mode, by its context's number and its error; a run; the sample that interrupts a run, by whether
-- Ra and Rb are equal and its error
pub data Event : Type 0 where
  regular : ℕ → ℤ → Event
  run : Run → Event
  interruption : Bool → ℤ → Event

-- the error that an event codes in a context, if any
abbrev pub error_of_regular_event : ℕ → Event → Option ℤ
error_of_regular_event number (regular other e) = if number == other then Some e else None
error_of_regular_event number (run r) = None
error_of_regular_event number (interruption ri_type e) = None

abbrev pub same : Bool → Bool → Bool
same true true = true
same true false = false
same false true = false
same false false = true

abbrev pub error_of_interruption_event : Bool → Event → Option ℤ
error_of_interruption_event ri_type (regular number e) = None
error_of_interruption_event ri_type (run r) = None
error_of_interruption_event ri_type (interruption other e) = if same ri_type other then Some e else None

-- a context's counters after events
abbrev pub stats_after_events : Parameters → ℕ → List Event → Stats
stats_after_events p number events = stats_after p (filter_map (error_of_regular_event number) events)

abbrev pub counts_after_events : Parameters → Bool → List Event → Counts
counts_after_events p ri_type events = counts_after p ri_type (filter_map (error_of_interruption_event ri_type) events)

-- RUNindex after events: a run may raise it, the sample that interrupts one lowers it unless it is 0 (A.7.1.2, A.7.2)
abbrev pub index_step : ℕ → Event → ℕ
index_step index (regular number e) = index
index_step index (run r) = index_at index r
index_step index (interruption ri_type e) = index - 1

abbrev pub run_index_after_events : List Event → ℕ
run_index_after_events events = fold index_step 0 events

-- whether the sample that interrupts a run comes next
abbrev pub is_interrupted : Event → Bool
is_interrupted (regular number e) = false
is_interrupted (run r) = r.interrupted
is_interrupted (interruption ri_type e) = false

abbrev pub interrupted_after_events : List Event → Bool
interrupted_after_events events = fold (λ interrupted event. is_interrupted event) false events

-- ---- the word and the event of a sample

-- the bits of a code word
abbrev pub golomb_bits : Parameters → Word → List Bool
golomb_bits p word = code_word word.k word.glimit (qbpp_of p.maxval) word.value

-- for a sample of regular mode: its error, and the word of its mapped error (A.4, A.5)
abbrev pub regular_error_of : Parameters → Context → Stats → Neighbours → ℕ → ℤ
regular_error_of p context stats neighbours sample = error_of p context.negative (predicted p context.negative stats.c neighbours) sample

abbrev pub regular_word : Parameters → Stats → ℤ → Word
regular_word p stats e = let k = golomb_parameter stats.n stats.a in record {
  k = k;
  glimit = limit_of p.maxval;
  value = mapped_error (is_inverted k stats.b stats.n) e;
}

-- for a run interruption sample, at the RUNindex that its run left (A.7.2)
abbrev pub interruption_word : Parameters → ℕ → Bool → Counts → ℤ → Word
interruption_word p index ri_type counts e = record {
  k = interruption_k ri_type counts;
  glimit = limit_of p.maxval - order index - 1;
  value = interruption_value ri_type counts e;
}
