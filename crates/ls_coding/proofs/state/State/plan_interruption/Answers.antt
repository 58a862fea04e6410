use Rattle.std.proofs.Common.{rules, ap, sym, subst, ◌∙◌}
use Rattle.ls_coding.specs.declared.neighbours.Neighbours.{Neighbours}
use Rattle.ls_coding.specs.View.States.{interruption_word_in}
use Rattle.ls_coding.specs.View.Plans.{Planned, interruption_plan, IsReadBy}
use Rattle.ls_coding.proofs.InterruptionViews.{neighbours_of_interruption, read_interruption}
use Rattle.ls_coding.proofs.state.State.plan_interruption.Goals as goal

pub returns-clause-plan : goal.returns-clause-plan
returns-clause-plan c = search rules

pub returns-clause-word : goal.returns-clause-word
returns-clause-word c sample =
    subst (λ (plan : Planned). IsReadBy plan (interruption_word_in c.args.self.now c.args.neighbours.now sample)) (sym (returns-clause-plan c))
    (read_interruption c.args.self.now c.args.neighbours.now sample)

pub returns-clause-neighbours : goal.returns-clause-neighbours
returns-clause-neighbours c = ap (λ (q : Planned). q.neighbours) (returns-clause-plan c) ∙ neighbours_of_interruption c.args.self.now c.args.neighbours.now

pub returns-clause-own : goal.returns-clause-own
returns-clause-own c = returns-clause-plan c ∙ ap (λ (x : Neighbours). interruption_plan c.args.self.now x) (sym (returns-clause-neighbours c))
