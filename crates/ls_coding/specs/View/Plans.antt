-- How a sample's word is decoded, and which sample a mapped error stands for.
use Rattle.std.specs.Prelude.{◌≡◌, ℕ, ◌-◌, Bool, ℤ, pos}
use Rattle.ls_frame.specs.Parameters.{Parameters, limit_of}
use Rattle.ls_coding.specs.declared.neighbours.Neighbours.{Neighbours}
use Rattle.ls_coding.specs.declared.word.Word.{Word}
use Rattle.ls_coding.specs.Numbers.{golomb_parameter}
use Rattle.ls_coding.specs.Contexts.{Context}
use Rattle.ls_coding.specs.Errors.{predicted}
use Rattle.ls_coding.specs.Stats.{Stats}
use Rattle.ls_coding.specs.Interruptions.{Counts, ri_type_of, interruption_negative, interruption_prediction, ri_value, interruption_k}
use Rattle.ls_coding.specs.Runs.{order}
use Rattle.ls_coding.specs.View.States.{Coding, stats_in, counts_in, context_in}

-- the model of a `Plan`: a sample's neighbours, its word's k and limit, its context, whether the sign of its error is changed, and its prediction
pub record Planned : Type 0 where
  pub neighbours : Neighbours
  pub k : ℕ
  pub glimit : ℕ
  pub number : ℕ
  pub negative : Bool
  pub prediction : ℤ

-- for a sample of regular mode, by its context and the context's counters
unfoldable pub regular_plan_by : Parameters → Context → Stats → Neighbours → Planned
regular_plan_by p context stats neighbours = record {
  neighbours = neighbours;
  k = golomb_parameter stats.n stats.a;
  glimit = limit_of p.maxval;
  number = context.number;
  negative = context.negative;
  prediction = predicted p context.negative stats.c neighbours;
}

abbrev pub regular_plan : Coding → Neighbours → Planned
regular_plan state neighbours = regular_plan_by state.parameters (context_in state neighbours) (stats_in state (context_in state neighbours).number) neighbours

-- for the sample that interrupts a run, by RUNindex and its context's counters; its context's number is 0 or 1
unfoldable pub interruption_plan_by : Parameters → ℕ → Counts → Neighbours → Planned
interruption_plan_by p index counts neighbours = record {
  neighbours = neighbours;
  k = interruption_k (ri_type_of neighbours) counts;
  glimit = limit_of p.maxval - order index - 1;
  number = ri_value (ri_type_of neighbours);
  negative = interruption_negative neighbours;
  prediction = pos (interruption_prediction neighbours);
}

abbrev pub interruption_plan : Coding → Neighbours → Planned
interruption_plan state neighbours = interruption_plan_by state.parameters state.run_index (counts_in state (ri_type_of neighbours)) neighbours

-- the word belongs to the plan's code
pub record IsReadBy (plan : Planned) (word : Word) : Type 0 where
  pub same_k : word.k ≡ plan.k
  pub same_limit : word.glimit ≡ plan.glimit

-- the sample is the only one whose word has this value, its mapped error
pub record IsTheSample (IsSample : ℕ → Type 0) (value_of : ℕ → ℕ) (value sample : ℕ) : Type 0 where
  pub is_sample : IsSample sample
  pub has_value : value_of sample ≡ value
  pub only : (other : ℕ) → IsSample other → value_of other ≡ value → other ≡ sample

-- no sample's word has this value
abbrev pub NoSample : (ℕ → Type 0) → (ℕ → ℕ) → ℕ → Type 0
NoSample IsSample value_of value = (sample : ℕ) → IsSample sample → value_of sample ≡ value → ⊥
