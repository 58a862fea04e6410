use Rattle.std.proofs.Common.{◌≡◌, ◌≤◌, ◌<◌, ◌/◌, ◌^◌, ℕ, pos, sym, ap, subst, refl, ◌∙◌}
use Rattle.ls_frame.specs.Parameters.{Parameters}
use Rattle.ls_coding.specs.View.SureZeros.{sure_zeros}
use Rattle.ls_coding.proofs.SureLemmas.{small_by_zeros}
use Rattle.ls_coding.specs.Errors.{mapped_error, is_inverted, error_of}
use Rattle.ls_coding.specs.View.States.{Coding, context_in, regular_word_in, regular_error_in, regular_after}
use Rattle.ls_coding.specs.View.Fields.{stats_at, counts_at}
use Rattle.ls_coding.specs.View.Plans.{Planned, regular_plan, IsTheSample}
use Rattle.ls_coding.specs.contracts.state.State as state
use Rattle.ls_coding.specs.contracts.plan.Plan as plan
use Rattle.ls_coding.proofs.RegularLemmas.{context_small, number_same, prediction_small, value_same, stepped_same, sample_by}
use Rattle.ls_coding.proofs.StateLemmas.{alike_parameters, alike}
use Rattle.ls_coding.proofs.state.State.accept_sure_with.Goals as goal

made_by : (c : goal.After-plan) → plan.the_view c.plan.inside ≡ regular_plan (state.the_view c.self.inside) c.args.plan.neighbours
made_by c = c.plan.view_is ∙ c.requires.plan ∙ ap (λ (t : Coding). regular_plan t c.args.plan.neighbours) (sym c.self.view_is)

pub accept_sure-requires-clause-number : goal.accept_sure-requires-clause-number
accept_sure-requires-clause-number c =
    let small : (context_in (state.the_view c.self.inside) c.args.plan.neighbours).number < 365 = context_small c.self.inside.counters.presets c.args.plan.neighbours in
    subst (λ number. number < 365) (sym (number_same (state.the_view c.self.inside) c.args.plan.neighbours (plan.the_view c.plan.inside) (made_by c))) small

pub accept_sure-requires-clause-prediction : goal.accept_sure-requires-clause-prediction
accept_sure-requires-clause-prediction c =
    prediction_small (state.the_view c.self.inside) c.args.plan.neighbours (plan.the_view c.plan.inside) c.plan.inside.prediction (made_by c) refl

pub accept_sure-requires-clause-presets : goal.accept_sure-requires-clause-presets
accept_sure-requires-clause-presets c = c.requires.presets ∙ ap (λ (t : Coding). t.parameters) (sym c.self.view_is)

pub accept_sure-requires-clause-value : goal.accept_sure-requires-clause-value
accept_sure-requires-clause-value c =
    let same : c.self.inside.counters.presets ≡ c.args.self.now.parameters = ap (λ (t : Coding). t.parameters) c.self.view_is in
    let k : c.plan.inside.k ≡ c.args.plan.k = ap (λ (q : Planned). q.k) c.plan.view_is in
    small_by_zeros c.self.inside.counters.presets c.args.value c.plan.inside.k
    (subst (λ (p : Parameters). c.args.value / 2 ^ c.plan.inside.k < sure_zeros p c.plan.inside.k) (sym same)
    (subst (λ (n : ℕ). c.args.value / 2 ^ n < sure_zeros c.args.self.now.parameters n) (sym k) c.requires.value))

made_here : (c : goal.After-accept_sure) → plan.the_view c.plan.inside ≡ regular_plan (state.the_view c.self.inside) c.args.plan.neighbours
made_here c = c.plan.view_is ∙ c.requires.plan ∙ ap (λ (t : Coding). regular_plan t c.args.plan.neighbours) (sym c.self.view_is)

same_value : (c : goal.After-accept_sure) (one : ℕ)
    → mapped_error (is_inverted c.plan.inside.k (stats_at c.self.inside.counters.a c.self.inside.counters.b c.self.inside.counters.c c.self.inside.counters.n c.plan.inside.number).b (stats_at c.self.inside.counters.a c.self.inside.counters.b c.self.inside.counters.c c.self.inside.counters.n c.plan.inside.number).n)
    (error_of c.self.inside.counters.presets c.plan.inside.negative (pos c.plan.inside.prediction) one)
    ≡ (regular_word_in (state.the_view c.self.inside) c.args.plan.neighbours one).value
same_value c one =
    let s = c.self.inside in
    value_same s.counters.presets s.counters.a s.counters.n s.counters.b s.counters.c (counts_at s.counters.a s.counters.n s.counters.nn 0) (counts_at s.counters.a s.counters.n s.counters.nn 1) s.run_index s.interrupted
    c.args.plan.neighbours (plan.the_view c.plan.inside) (made_here c) one

pub returns-clause-sample : goal.returns-clause-sample
returns-clause-sample c =
    subst (λ (t : Coding). IsTheSample (λ one. one ≤ t.parameters.maxval) (λ one. (regular_word_in t c.args.plan.neighbours one).value) c.args.value c.accept_sure.result) c.self.view_is
    (sample_by _ _ _ c.args.value c.accept_sure.result (same_value c) c.accept_sure.ensures.sample)

pub returns-clause-state : goal.returns-clause-state
returns-clause-state c =
    let s = c.self.inside in
    alike_parameters _ _ _ _ _ _ _ c.accept_sure.ensures.parameters
    ∙ alike s.counters.presets _ _ _ _ _ _ _ _ _ _
    (c.accept_sure.ensures.contexts ∙ stepped_same s.counters.presets s.counters.a s.counters.n s.counters.b s.counters.c (counts_at s.counters.a s.counters.n s.counters.nn 0) (counts_at s.counters.a s.counters.n s.counters.nn 1) s.run_index s.interrupted
    c.args.plan.neighbours (plan.the_view c.plan.inside) (made_here c) c.accept_sure.result)
    c.accept_sure.ensures.ri_type_0 c.accept_sure.ensures.ri_type_1 refl refl
    ∙ ap (λ (t : Coding). regular_after t (context_in t c.args.plan.neighbours).number (regular_error_in t c.args.plan.neighbours c.accept_sure.result)) c.self.view_is
