use Rattle.std.proofs.Common.{◌≡◌, ◌≤◌, length, refl, sym, ap, subst, ◌∙◌}
use Rattle.std.proofs.Math.ListN.{set}
use Rattle.ls_frame.specs.Parameters.{Parameters, qbpp_of, limit_of}
use Rattle.ls_bits.proofs.GolombLemmas.{length-code_word}
use Rattle.ls_coding.specs.declared.word.Word.{Word}
use Rattle.ls_coding.specs.Contexts.{context_of}
use Rattle.ls_coding.specs.View.States.{Coding, context_in, regular_error_in, regular_word_in, regular_after}
use Rattle.ls_coding.specs.View.Fields.{contexts_of}
use Rattle.ls_coding.specs.View.Mirrors.{IsMirrored}
use Rattle.ls_coding.specs.Events.{golomb_bits}
use Rattle.ls_coding.proofs.EventLemmas.{word_of_regular, state_after_regular}
use Rattle.ls_coding.proofs.MirrorLemmas.{word_is, step_is}
use Rattle.ls_coding.proofs.StateLemmas.{alike_parameters, alike}
use Rattle.ls_coding.proofs.RegularLemmas.{word_in_view, step_in_view}
use Rattle.ls_coding.proofs.state.State.code_regular_at.Goals as goal

same : (c : goal.After-code) → c.self.inside.counters.presets ≡ c.args.self.now.parameters
same c = ap (λ (t : Coding). t.parameters) c.self.view_is

pub returns-clause-word : goal.returns-clause-word
returns-clause-word c x sample is =
    let s = c.self.inside in
    let held = subst (λ (p : Parameters). IsMirrored p x sample c.args.mirrored) (sym (same c)) is in
    c.code.ensures.word
    ∙ word_is s.counters.presets s.counters.a s.counters.n s.counters.b s.counters.c x sample c.args.mirrored held
    ∙ word_in_view s.counters.presets s.counters.a s.counters.n s.counters.b s.counters.c _ _ s.run_index s.interrupted x sample
    ∙ ap (λ (t : Coding). regular_word_in t x sample) c.self.view_is

pub returns-clause-state : goal.returns-clause-state
returns-clause-state c x sample is =
    let s = c.self.inside in
    let held = subst (λ (p : Parameters). IsMirrored p x sample c.args.mirrored) (sym (same c)) is in
    alike_parameters _ _ _ _ _ _ _ c.code.ensures.parameters
    ∙ alike s.counters.presets _ _ _ _ _ _ _ _ _ _
    (c.code.ensures.contexts
    ∙ step_is s.counters.presets s.counters.a s.counters.n s.counters.b s.counters.c x sample c.args.mirrored held
    ∙ ap (set (contexts_of s.counters.a s.counters.b s.counters.c s.counters.n) (context_of s.counters.presets x).number)
    (step_in_view s.counters.presets s.counters.a s.counters.n s.counters.b s.counters.c _ _ s.run_index s.interrupted x sample))
    c.code.ensures.ri_type_0 c.code.ensures.ri_type_1 refl refl
    ∙ ap (λ (t : Coding). regular_after t (context_in t x).number (regular_error_in t x sample)) c.self.view_is

pub returns-clause-cost : goal.returns-clause-cost
returns-clause-cost c =
    let limit : c.code.result.glimit ≡ limit_of c.self.inside.counters.presets.maxval = ap (λ (w : Word). w.glimit) c.code.ensures.word in
    subst (λ (p : Parameters). length (golomb_bits p c.code.result) ≤ limit_of p.maxval) (same c)
    (subst (λ most. length (golomb_bits c.self.inside.counters.presets c.code.result) ≤ most) limit
    (length-code_word c.code.result.k c.code.result.glimit (qbpp_of c.self.inside.counters.presets.maxval) c.code.result.value c.code.ensures.golomb))

pub returns-clause-events : goal.returns-clause-events
returns-clause-events c x sample is events state = record {
  word_is = returns-clause-word c x sample is ∙ word_of_regular c.args.self.now x sample events state;
  after_is = state_after_regular c.args.self.now _ x sample c.requires.may.uninterrupted (returns-clause-state c x sample is) events state;
}
