use Rattle.std.proofs.Common.{◌≡◌, ◌≤◌, ◌<◌, ◌^◌, ℕ, pos, sym, ap, subst, refl, ◌∙◌, arith}
use Rattle.ls_frame.specs.Parameters.{Parameters, qbpp_of}
use Rattle.std.specs.Prelude.{IfOk, IfErr}
use Rattle.ls_coding.specs.Errors.{mapped_error, is_inverted, error_of}
use Rattle.ls_coding.specs.View.States.{Coding, context_in, regular_word_in, regular_error_in, regular_after}
use Rattle.ls_coding.specs.View.Fields.{stats_at, counts_at}
use Rattle.ls_coding.specs.View.Plans.{regular_plan, IsTheSample, NoSample}
use Rattle.ls_coding.specs.contracts.state.State as state
use Rattle.ls_coding.specs.contracts.plan.Plan as plan
use Rattle.ls_coding.proofs.EventLemmas.{state_after_regular, word_of_regular}
use Rattle.ls_coding.proofs.RegularLemmas.{context_small, number_same, prediction_small, value_same, stepped_same, ok_map, err_map, sample_by, no_sample_by}
use Rattle.ls_coding.proofs.StateLemmas.{alike_parameters, alike}
use Rattle.ls_coding.proofs.WordLemmas.{value_small}
use Rattle.ls_coding.proofs.state.State.accept_regular.Goals as goal

made_by : (c : goal.After-plan) → plan.the_view c.plan.inside ≡ regular_plan (state.the_view c.self.inside) c.args.plan.neighbours
made_by c = c.plan.view_is ∙ c.requires.plan ∙ ap (λ (t : Coding). regular_plan t c.args.plan.neighbours) (sym c.self.view_is)

pub accept-requires-clause-number : goal.accept-requires-clause-number
accept-requires-clause-number c =
    let small : (context_in (state.the_view c.self.inside) c.args.plan.neighbours).number < 365 = context_small c.self.inside.counters.presets c.args.plan.neighbours in
    subst (λ number. number < 365) (sym (number_same (state.the_view c.self.inside) c.args.plan.neighbours (plan.the_view c.plan.inside) (made_by c))) small

pub accept-requires-clause-prediction : goal.accept-requires-clause-prediction
accept-requires-clause-prediction c =
    prediction_small (state.the_view c.self.inside) c.args.plan.neighbours (plan.the_view c.plan.inside) c.plan.inside.prediction (made_by c) refl

pub accept-requires-clause-value : goal.accept-requires-clause-value
accept-requires-clause-value c =
    let same : c.self.inside.counters.presets ≡ c.args.self.now.parameters = ap (λ (t : Coding). t.parameters) c.self.view_is in
    let value : c.args.value ≤ 2 ^ qbpp_of c.self.inside.counters.presets.maxval = subst (λ (p : Parameters). c.args.value ≤ 2 ^ qbpp_of p.maxval) (sym same) c.requires.value in
    value_small c.self.inside.counters.presets.maxval c.args.value (omega arith) (omega arith) value

made_here : (c : goal.After-accept) → plan.the_view c.plan.inside ≡ regular_plan (state.the_view c.self.inside) c.args.plan.neighbours
made_here c = c.plan.view_is ∙ c.requires.plan ∙ ap (λ (t : Coding). regular_plan t c.args.plan.neighbours) (sym c.self.view_is)

same_value : (c : goal.After-accept) (one : ℕ)
    → mapped_error (is_inverted c.plan.inside.k (stats_at c.self.inside.counters.a c.self.inside.counters.b c.self.inside.counters.c c.self.inside.counters.n c.plan.inside.number).b (stats_at c.self.inside.counters.a c.self.inside.counters.b c.self.inside.counters.c c.self.inside.counters.n c.plan.inside.number).n)
    (error_of c.self.inside.counters.presets c.plan.inside.negative (pos c.plan.inside.prediction) one)
    ≡ (regular_word_in (state.the_view c.self.inside) c.args.plan.neighbours one).value
same_value c one =
    let s = c.self.inside in
    value_same s.counters.presets s.counters.a s.counters.n s.counters.b s.counters.c (counts_at s.counters.a s.counters.n s.counters.nn 0) (counts_at s.counters.a s.counters.n s.counters.nn 1) s.run_index s.interrupted
    c.args.plan.neighbours (plan.the_view c.plan.inside) (made_here c) one

pub returns-clause-ok : goal.returns-clause-ok
returns-clause-ok c =
    subst (λ (t : Coding). IfOk c.accept.result (λ sample. IsTheSample (λ one. one ≤ t.parameters.maxval) (λ one. (regular_word_in t c.args.plan.neighbours one).value) c.args.value sample)) c.self.view_is
    (ok_map c.accept.result _ _ (λ sample h. sample_by _ _ _ c.args.value sample (same_value c) h) c.accept.ensures.ok)

pub returns-clause-none : goal.returns-clause-none
returns-clause-none c =
    subst (λ (t : Coding). IfErr c.accept.result (λ fault. NoSample (λ one. one ≤ t.parameters.maxval) (λ one. (regular_word_in t c.args.plan.neighbours one).value) c.args.value)) c.self.view_is
    (err_map c.accept.result _ _ (λ fault h. no_sample_by _ _ _ c.args.value (same_value c) h) c.accept.ensures.none)

pub returns-clause-state : goal.returns-clause-state
returns-clause-state c =
    let s = c.self.inside in
    ok_map c.accept.result _ _
    (λ sample h.
    alike_parameters _ _ _ _ _ _ _ c.accept.ensures.parameters
    ∙ alike s.counters.presets _ _ _ _ _ _ _ _ _ _
    (h ∙ stepped_same s.counters.presets s.counters.a s.counters.n s.counters.b s.counters.c (counts_at s.counters.a s.counters.n s.counters.nn 0) (counts_at s.counters.a s.counters.n s.counters.nn 1) s.run_index s.interrupted
    c.args.plan.neighbours (plan.the_view c.plan.inside) (made_here c) sample)
    c.accept.ensures.ri_type_0 c.accept.ensures.ri_type_1 refl refl
    ∙ ap (λ (t : Coding). regular_after t (context_in t c.args.plan.neighbours).number (regular_error_in t c.args.plan.neighbours sample)) c.self.view_is)
    c.accept.ensures.contexts

pub returns-clause-events : goal.returns-clause-events
returns-clause-events c events same =
    ok_map c.accept.result _ _
    (λ sample h. record {
      word_is = word_of_regular c.args.self.now c.args.plan.neighbours sample events same;
      after_is = state_after_regular c.args.self.now _ c.args.plan.neighbours sample c.requires.uninterrupted h events same;
    })
    (returns-clause-state c)
