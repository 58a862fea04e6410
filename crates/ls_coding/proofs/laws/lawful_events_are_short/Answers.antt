use Rattle.ls_coding.proofs.CostLemmas.{sample_cost, full_run_cost, interrupted_run_cost}
use Rattle.ls_coding.proofs.laws.lawful_events_are_short.Goals as goal

pub returns-clause-sample : goal.returns-clause-sample
returns-clause-sample c = sample_cost

pub returns-clause-full_run : goal.returns-clause-full_run
returns-clause-full_run c = full_run_cost

pub returns-clause-interrupted_run : goal.returns-clause-interrupted_run
returns-clause-interrupted_run c = interrupted_run_cost
