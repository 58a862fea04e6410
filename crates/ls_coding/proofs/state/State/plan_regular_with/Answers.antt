use Rattle.std.proofs.Common.{◌≤ℤ◌, pos, neg_ℤ, sym, ap, subst, ◌∙◌}
use Rattle.std.specs.Prelude.{unsigned_abs, int_lt}
use Rattle.ls_coding.specs.declared.neighbours.Neighbours.{Neighbours}
use Rattle.ls_coding.specs.View.States.{Coding, regular_word_in}
use Rattle.ls_coding.specs.View.Fields.{counts_at}
use Rattle.ls_coding.specs.View.Plans.{Planned, regular_plan, IsReadBy}
use Rattle.ls_coding.specs.Contexts.{context_of}
use Rattle.ls_coding.proofs.ContextLemmas.{signed_range, signed_splits, context_through}
use Rattle.ls_coding.proofs.RegularLemmas.{neighbours_of_regular, plan_in_view, read_regular}
use Rattle.ls_coding.proofs.state.State.plan_regular_with.Goals as goal

pub returns-clause-plan : goal.returns-clause-plan
returns-clause-plan c =
    let s = c.self.inside in
    c.plan.ensures.plan
    ∙ plan_in_view s.counters.presets s.counters.a s.counters.n s.counters.b s.counters.c (counts_at s.counters.a s.counters.n s.counters.nn 0) (counts_at s.counters.a s.counters.n s.counters.nn 1) s.run_index s.interrupted c.args.neighbours.now
    ∙ ap (λ (t : Coding). regular_plan t c.args.neighbours.now) c.self.view_is

pub returns-clause-word : goal.returns-clause-word
returns-clause-word c sample =
    subst (λ (plan : Planned). IsReadBy plan (regular_word_in c.args.self.now c.args.neighbours.now sample)) (sym (returns-clause-plan c))
    (read_regular c.args.self.now c.args.neighbours.now sample)

pub returns-clause-neighbours : goal.returns-clause-neighbours
returns-clause-neighbours c = ap (λ (q : Planned). q.neighbours) (returns-clause-plan c) ∙ neighbours_of_regular c.args.self.now c.args.neighbours.now

pub returns-clause-own : goal.returns-clause-own
returns-clause-own c = returns-clause-plan c ∙ ap (λ (x : Neighbours). regular_plan c.args.self.now x) (sym (returns-clause-neighbours c))

pub context_of_signed-requires-clause-low : goal.context_of_signed-requires-clause-low
context_of_signed-requires-clause-low c =
    let range = signed_range c.args.self.now.parameters c.args.neighbours.now in
    subst (λ z. neg_ℤ (pos 364) ≤ℤ z) (sym (context_through _ _ c.args.context c.requires.context)) range.0

pub context_of_signed-requires-clause-high : goal.context_of_signed-requires-clause-high
context_of_signed-requires-clause-high c =
    let range = signed_range c.args.self.now.parameters c.args.neighbours.now in
    subst (λ z. z ≤ℤ pos 364) (sym (context_through _ _ c.args.context c.requires.context)) range.1

pub plan-requires-clause-number : goal.plan-requires-clause-number
plan-requires-clause-number c =
    c.context_of_signed.ensures.number ∙ ap unsigned_abs (context_through _ _ c.args.context c.requires.context) ∙ sym (signed_splits c.args.self.now.parameters c.args.neighbours.now).0
    ∙ ap (λ (t : Coding). (context_of t.parameters c.args.neighbours.now).number) (sym c.self.view_is)

pub plan-requires-clause-negative : goal.plan-requires-clause-negative
plan-requires-clause-negative c =
    c.context_of_signed.ensures.negative ∙ ap (λ z. int_lt z (pos 0)) (context_through _ _ c.args.context c.requires.context) ∙ sym (signed_splits c.args.self.now.parameters c.args.neighbours.now).1
    ∙ ap (λ (t : Coding). (context_of t.parameters c.args.neighbours.now).negative) (sym c.self.view_is)

pub plan-requires-clause-presets : goal.plan-requires-clause-presets
plan-requires-clause-presets c = c.requires.presets ∙ ap (λ (t : Coding). t.parameters) (sym c.self.view_is)
