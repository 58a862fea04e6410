use Rattle.std.proofs.Common.{rules, ◌≡◌, ◌≤◌, ◌^◌, ℕ, sym, ap, subst, ◌∙◌, arith}
use Rattle.ls_frame.specs.Parameters.{Parameters, qbpp_of}
use Rattle.ls_coding.specs.declared.neighbours.Neighbours.{Neighbours}
use Rattle.ls_coding.specs.Interruptions.{ri_type_of, ri_value, interruption_value, interruption_error}
use Rattle.ls_coding.specs.View.States.{Coding, interruption_word_in}
use Rattle.ls_coding.specs.View.Fields.{contexts_of, counts_at}
use Rattle.ls_coding.specs.Samples.{Interrupts}
use Rattle.ls_coding.specs.View.Plans.{Planned, interruption_plan, IsTheSample, NoSample}
use Rattle.ls_coding.specs.contracts.state.State as state
use Rattle.ls_coding.specs.contracts.plan.Plan as plan
use Rattle.ls_coding.proofs.EventLemmas.{word_of_interruption, state_after_interruption}
use Rattle.ls_coding.proofs.InterruptionViews.{k_same, value_in_view}
use Rattle.ls_coding.proofs.RegularLemmas.{sample_by, no_sample_by, err_always}
use Rattle.ls_coding.proofs.WordLemmas.{value_small}
use Rattle.ls_coding.proofs.state.State.accept_interruption.Goals as goal

pub accept_interruption-requires-clause-k : goal.accept_interruption-requires-clause-k
accept_interruption-requires-clause-k c =
    let s = c.self.inside in
    let same : c.plan.inside.neighbours ≡ c.args.plan.neighbours = ap (λ (q : Planned). q.neighbours) c.plan.view_is in
    let made : plan.the_view c.plan.inside ≡ interruption_plan (state.the_view s) c.plan.inside.neighbours =
    c.plan.view_is ∙ c.requires.plan ∙ ap (λ (t : Coding). interruption_plan t c.args.plan.neighbours) (sym c.self.view_is)
    ∙ ap (λ (x : Neighbours). interruption_plan (state.the_view s) x) (sym same) in
    k_same s.counters.presets (contexts_of s.counters.a s.counters.b s.counters.c s.counters.n) s.counters.a s.counters.n s.counters.nn s.run_index s.interrupted c.plan.inside.neighbours (plan.the_view c.plan.inside) made

pub accept_interruption-requires-clause-value : goal.accept_interruption-requires-clause-value
accept_interruption-requires-clause-value c =
    let same : c.self.inside.counters.presets ≡ c.args.self.now.parameters = ap (λ (t : Coding). t.parameters) c.self.view_is in
    let value : c.args.value ≤ 2 ^ qbpp_of c.self.inside.counters.presets.maxval = subst (λ (p : Parameters). c.args.value ≤ 2 ^ qbpp_of p.maxval) (sym same) c.requires.value in
    value_small c.self.inside.counters.presets.maxval c.args.value (omega arith) (omega arith) value

pub returns-in_err-sample-clause-none : goal.returns-in_err-sample-clause-none
returns-in_err-sample-clause-none c =
    let s = c.self.inside in
    let same : c.plan.inside.neighbours ≡ c.args.plan.neighbours = ap (λ (q : Planned). q.neighbours) c.plan.view_is in
    err_always c.from_residual.result _
    (subst (λ (x : Neighbours). NoSample (Interrupts c.args.self.now.parameters.maxval x.a) (λ one. (interruption_word_in c.args.self.now x one).value) c.args.value) same
    (subst (λ (t : Coding). NoSample (Interrupts t.parameters.maxval c.plan.inside.neighbours.a) (λ one. (interruption_word_in t c.plan.inside.neighbours one).value) c.args.value) c.self.view_is
    (no_sample_by _ _ _ c.args.value
    (value_in_view s.counters.presets (contexts_of s.counters.a s.counters.b s.counters.c s.counters.n) s.counters.a s.counters.n s.counters.nn s.run_index s.interrupted c.plan.inside.neighbours)
    c.in_err-sample.ensures.none)))

same_value : (c : goal.After-self-2-1) (one : ℕ)
    → interruption_value (ri_type_of c.plan.inside.neighbours) (counts_at c.self.inside.counters.a c.self.inside.counters.n c.self.inside.counters.nn (ri_value (ri_type_of c.plan.inside.neighbours))) (interruption_error c.self.inside.counters.presets c.plan.inside.neighbours one)
    ≡ (interruption_word_in (state.the_view c.self.inside) c.plan.inside.neighbours one).value
same_value c one =
    let s = c.self.inside in
    value_in_view s.counters.presets (contexts_of s.counters.a s.counters.b s.counters.c s.counters.n) s.counters.a s.counters.n s.counters.nn s.run_index s.interrupted c.plan.inside.neighbours one

pub returns-clause-ok : goal.returns-clause-ok
returns-clause-ok c =
    let same : c.plan.inside.neighbours ≡ c.args.plan.neighbours = ap (λ (q : Planned). q.neighbours) c.plan.view_is in
    subst (λ (x : Neighbours). IsTheSample (Interrupts c.args.self.now.parameters.maxval x.a) (λ one. (interruption_word_in c.args.self.now x one).value) c.args.value c.in_ok-sample.sample) same
    (subst (λ (t : Coding). IsTheSample (Interrupts t.parameters.maxval c.plan.inside.neighbours.a) (λ one. (interruption_word_in t c.plan.inside.neighbours one).value) c.args.value c.in_ok-sample.sample) c.self.view_is
    (sample_by _ _ _ c.args.value c.in_ok-sample.sample (same_value c) c.in_ok-sample.ensures.ok))

pub returns-clause-state : goal.returns-clause-state
returns-clause-state c = search rules

pub returns-clause-events : goal.returns-clause-events
returns-clause-events c events same = record {
  word_is = word_of_interruption c.args.self.now c.args.plan.neighbours c.in_ok-sample.sample events same;
  after_is = state_after_interruption c.args.self.now _ (ri_type_of c.args.plan.neighbours) (interruption_error c.args.self.now.parameters c.args.plan.neighbours c.in_ok-sample.sample) (returns-clause-state c) events same;
}
