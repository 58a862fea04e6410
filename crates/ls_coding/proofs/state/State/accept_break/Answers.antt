use Rattle.std.proofs.Common.{◌^◌, ◌<◌, true, sym, ap, subst, ◌∙◌, rules}
use Rattle.ls_coding.specs.Runs.{order, run_of}
use Rattle.ls_coding.specs.View.States.{Coding, run_after}
use Rattle.ls_coding.specs.contracts.state.State as state
use Rattle.ls_coding.proofs.StateLemmas.{break_after, state_after_run}
use Rattle.ls_coding.proofs.state.State.accept_break.Goals as goal

pub returns-clause-state : goal.returns-clause-state
returns-clause-state c =
    let few : c.args.rest < 2 ^ order c.self.inside.run_index = subst (λ (t : Coding). c.args.rest < 2 ^ order t.run_index) (sym c.self.view_is) c.requires.rest in
    break_after (state.the_view c.self.inside) c.args.rest few ∙ ap (λ (t : Coding). run_after t (run_of c.args.rest true)) c.self.view_is

pub returns-clause-events : goal.returns-clause-events
returns-clause-events c events same = state_after_run c.args.self.now _ _ (returns-clause-state c) events same

pub returns-clause-ok : goal.returns-clause-ok
returns-clause-ok c = search rules
