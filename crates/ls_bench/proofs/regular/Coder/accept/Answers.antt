use Rattle.std.proofs.Common.{ℕ, ◌≤◌, ap, sym, subst, ◌∙◌}
use Rattle.ls_bits.specs.Golomb.{most_value}
use Rattle.ls_frame.specs.Parameters.{qbpp_of, ceil_log2}
use Rattle.ls_coding.specs.declared.neighbours.Neighbours.{Neighbours}
use Rattle.ls_coding.specs.Samples.{AreSamples}
use Rattle.ls_coding.specs.View.Plans.{Planned, regular_plan, regular_plan_by}
use Rattle.ls_bench.proofs.regular.Coder.accept.Goals as goal

pub accept_regular-requires-clause-plan : goal.accept_regular-requires-clause-plan
unfolding regular_plan_by
accept_regular-requires-clause-plan c =
    c.plan_regular-plan.ensures.plan
    ∙ ap (regular_plan c.args.self.now.state) (sym (ap (λ (p : Planned). p.neighbours) c.plan_regular-plan.ensures.plan))

pub accept_regular-requires-clause-samples : goal.accept_regular-requires-clause-samples
unfolding regular_plan_by
accept_regular-requires-clause-samples c =
    subst (λ (n : Neighbours). AreSamples c.args.self.now.state.parameters.maxval n) (sym (ap (λ (p : Planned). p.neighbours) c.plan_regular-plan.ensures.plan))
    (subst (λ (m : ℕ). AreSamples m c.args.neighbours.now) (sym c.args.self.now.samples) c.requires.samples)

pub accept_regular-requires-clause-value : goal.accept_regular-requires-clause-value
unfolding ceil_log2
accept_regular-requires-clause-value c =
    subst (λ (m : ℕ). c.args.value ≤ most_value (qbpp_of m)) (sym c.args.self.now.samples) c.requires.value
