use Rattle.std.proofs.Common.{rules, ◌≡◌, ◌≤◌, ◌-◌, length, ap, subst, ◌∙◌}
use Rattle.ls_frame.specs.Parameters.{qbpp_of, limit_of}
use Rattle.ls_bits.proofs.GolombLemmas.{length-code_word}
use Rattle.ls_coding.specs.declared.word.Word.{Word}
use Rattle.ls_coding.specs.Interruptions.{ri_type_of, interruption_error}
use Rattle.ls_coding.specs.Runs.{order}
use Rattle.ls_coding.specs.Events.{golomb_bits}
use Rattle.ls_coding.specs.View.States.{Coding, interruption_word_in}
use Rattle.ls_coding.specs.View.Fields.{contexts_of}
use Rattle.ls_coding.proofs.EventLemmas.{word_of_interruption, state_after_interruption}
use Rattle.ls_coding.proofs.InterruptionViews.{word_in_view}
use Rattle.ls_coding.proofs.state.State.code_interruption.Goals as goal

pub returns-clause-word : goal.returns-clause-word
returns-clause-word c =
    let s = c.self.inside in
    c.code_interruption-word.ensures.word
    ∙ word_in_view s.counters.presets (contexts_of s.counters.a s.counters.b s.counters.c s.counters.n) s.counters.a s.counters.n s.counters.nn s.run_index s.interrupted c.args.neighbours.now c.args.sample
    ∙ ap (λ (t : Coding). interruption_word_in t c.args.neighbours.now c.args.sample) c.self.view_is

pub returns-clause-cost : goal.returns-clause-cost
returns-clause-cost c =
    let s = c.self.inside in
    let limit : c.code_interruption-word.result.glimit ≡ limit_of s.counters.presets.maxval - order s.run_index - 1 = ap (λ (w : Word). w.glimit) c.code_interruption-word.ensures.word in
    subst (λ (t : Coding). length (golomb_bits t.parameters c.code_interruption-word.result) ≤ limit_of t.parameters.maxval - order t.run_index - 1) c.self.view_is
    (subst (λ most. length (golomb_bits s.counters.presets c.code_interruption-word.result) ≤ most) limit
    (length-code_word c.code_interruption-word.result.k c.code_interruption-word.result.glimit (qbpp_of s.counters.presets.maxval) c.code_interruption-word.result.value c.code_interruption-word.ensures.golomb))

pub returns-clause-state : goal.returns-clause-state
returns-clause-state c = search rules

pub returns-clause-events : goal.returns-clause-events
returns-clause-events c events same = record {
  word_is = returns-clause-word c ∙ word_of_interruption c.args.self.now c.args.neighbours.now c.args.sample events same;
  after_is = state_after_interruption c.args.self.now _ (ri_type_of c.args.neighbours.now) (interruption_error c.args.self.now.parameters c.args.neighbours.now c.args.sample) (returns-clause-state c) events same;
}
