use Rattle.std.proofs.Common.{◌^◌, ◌<◌, false, ap, subst, ◌∙◌, arith}
use Rattle.ls_coding.specs.Runs.{order, run_of}
use Rattle.ls_coding.specs.View.States.{Coding, run_after}
use Rattle.ls_coding.specs.contracts.state.State as state
use Rattle.ls_coding.proofs.StateLemmas.{part_after, one_after, state_after_run}
use Rattle.ls_coding.proofs.state.State.accept_one.Goals as goal

pub returns-then-samples-left-clause-state : goal.returns-then-samples-left-clause-state
returns-then-samples-left-clause-state c =
    let few : c.args.left < 2 ^ order c.self.inside.run_index = omega (arith, c.samples_of_one-samples.ensures) in
    part_after c.args.self.now c.args.left (subst (λ (t : Coding). c.args.left < 2 ^ order t.run_index) c.self.view_is few) c.requires.uninterrupted

pub returns-then-samples-left-clause-events : goal.returns-then-samples-left-clause-events
returns-then-samples-left-clause-events c events same = state_after_run c.args.self.now _ _ (returns-then-samples-left-clause-state c) events same

pub returns-clause-state : goal.returns-clause-state
returns-clause-state c =
    one_after (state.the_view c.self.inside) c.min-self-inside.result c.samples_of_one-samples.result c.min-self-inside.ensures c.samples_of_one-samples.ensures
    (ap (λ (t : Coding). t.interrupted) c.self.view_is ∙ c.requires.uninterrupted)
    ∙ ap (λ (t : Coding). run_after t (run_of c.samples_of_one-samples.result false)) c.self.view_is

pub returns-clause-events : goal.returns-clause-events
returns-clause-events c events same = state_after_run c.args.self.now _ _ (returns-clause-state c) events same
