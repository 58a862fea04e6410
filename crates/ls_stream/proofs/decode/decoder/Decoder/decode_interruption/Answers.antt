use Rattle.std.proofs.Common.{◌≡◌, ℕ, ◌<◌, ◌≤◌, ◌++◌, List, Bool, sym, ◌∙◌, ap, subst}
use Rattle.std.specs.Prelude.{IfOk, IfErr}
use Rattle.ls_frame.specs.Parameters.{Parameters, qbpp_of}
use Rattle.ls_coding.specs.declared.neighbours.Neighbours.{Neighbours}
use Rattle.ls_coding.specs.Samples.{AreSamples, Interrupts}
use Rattle.ls_coding.specs.Events.{golomb_bits}
use Rattle.ls_coding.specs.View.Plans.{IsTheSample, NoSample, interruption_plan}
use Rattle.ls_coding.specs.View.States.{Coding, interruption_word_in}
use Rattle.ls_coding.proofs.OnceLemmas.{interruption_value_in}
use Rattle.ls_coding.proofs.RegularLemmas.{err_always, ok_map, err_map}
use Rattle.std.proofs.lemmas.Result.{err_from_is_err_and}
use Rattle.ls_bits.specs.View.Plain.{bits_in}
use Rattle.ls_stream.specs.View.BitFaults.{BreaksInterruption}
use Rattle.ls_stream.proofs.BreakingLemmas.{err_both, golomb_breaks, value_breaks}
use Rattle.ls_stream.specs.View.Decoding.{Unread}
use Rattle.ls_stream.proofs.DecoderLemmas.{IsCode, none_taken, only_taken, no_sample_taken}
use Rattle.ls_stream.proofs.decode.decoder.Decoder.decode_interruption.Goals as goal

pub returns-in_err-value-clause-none : goal.returns-in_err-value-clause-none
returns-in_err-value-clause-none c =
    let s : Coding = c.self.inside.state.now in
    let n : Neighbours = c.args.neighbours.now in
    let plan = c.plan_interruption-plan.result in
    let maxval : ℕ = s.parameters.maxval in
    let some : 0 < maxval = subst (λ (p : Parameters). 0 < p.maxval) (sym c.self.invariant.0) c.self.invariant.2.some_maxval in
    let most : maxval ≤ 65535 = subst (λ (p : Parameters). p.maxval ≤ 65535) (sym c.self.invariant.0) c.self.invariant.2.maxval in
    let samples : AreSamples maxval n = subst (λ (u : Unread). AreSamples u.state.parameters.maxval n) (sym c.self.view_is) c.requires.samples in
    let code : IsCode plan (interruption_word_in s n) c.k.result c.glimit.result c.self.inside.qbpp maxval = record {
      golomb = c.plan_interruption-plan.ensures.golomb;
      read_by = c.plan_interruption-plan.ensures.word;
      k_is = c.k.ensures;
      glimit_is = c.glimit.ensures;
      qbpp_is = c.self.invariant.1 ∙ ap (λ (p : Parameters). qbpp_of p.maxval) (sym c.self.invariant.0);
    } in
    subst (λ (u : Unread). IfErr c.from_residual.result (λ fault. (other : ℕ) (rest : List Bool) → (Interrupts u.state.parameters.maxval n.a other) → u.bits ≡ golomb_bits u.state.parameters (interruption_word_in u.state n other) ++ rest → ⊥)) c.self.view_is
    (err_always c.from_residual.result _
    (λ other rest h e. none_taken plan (interruption_word_in s n) c.k.result c.glimit.result c.self.inside.qbpp maxval other (bits_in c.self.inside.source.now) rest _ code
    c.in_err-value.ensures.fault (interruption_value_in s n other some most samples h.within) e))

pub returns-clause-only : goal.returns-clause-only
returns-clause-only c =
    let s : Coding = c.self.inside.state.now in
    let n : Neighbours = c.args.neighbours.now in
    let plan = c.plan_interruption-plan.result in
    let maxval : ℕ = s.parameters.maxval in
    let some : 0 < maxval = subst (λ (p : Parameters). 0 < p.maxval) (sym c.self.invariant.0) c.self.invariant.2.some_maxval in
    let most : maxval ≤ 65535 = subst (λ (p : Parameters). p.maxval ≤ 65535) (sym c.self.invariant.0) c.self.invariant.2.maxval in
    let samples : AreSamples maxval n = subst (λ (u : Unread). AreSamples u.state.parameters.maxval n) (sym c.self.view_is) c.requires.samples in
    let code : IsCode plan (interruption_word_in s n) c.k.result c.glimit.result c.self.inside.qbpp maxval = record {
      golomb = c.plan_interruption-plan.ensures.golomb;
      read_by = c.plan_interruption-plan.ensures.word;
      k_is = c.k.ensures;
      glimit_is = c.glimit.ensures;
      qbpp_is = c.self.invariant.1 ∙ ap (λ (p : Parameters). qbpp_of p.maxval) (sym c.self.invariant.0);
    } in
    let same : plan.neighbours ≡ n = c.plan_interruption-plan.ensures.neighbours in
    subst (λ (u : Unread). IfOk c.accept_interruption.result (λ sample. (other : ℕ) (rest : List Bool) → (Interrupts u.state.parameters.maxval n.a other) → u.bits ≡ golomb_bits u.state.parameters (interruption_word_in u.state n other) ++ rest → (other ≡ sample) × (rest ≡ (bits_in c.take_golomb.new.self)))) c.self.view_is
    (ok_map c.accept_interruption.result _ _
    (λ found is other rest h e. only_taken plan (interruption_word_in s n) (Interrupts maxval n.a) c.k.result c.glimit.result c.self.inside.qbpp maxval other c.in_ok-value.value found (bits_in c.self.inside.source.now) (bits_in c.take_golomb.new.self) rest
    code c.in_ok-value.ensures.ok (subst (λ (m : Neighbours). IsTheSample (Interrupts maxval m.a) (λ one. (interruption_word_in s m one).value) c.in_ok-value.value found) same is) h (interruption_value_in s n other some most samples h.within) e)
    c.accept_interruption.ensures.ok)

pub returns-clause-none : goal.returns-clause-none
returns-clause-none c =
    let s : Coding = c.self.inside.state.now in
    let n : Neighbours = c.args.neighbours.now in
    let plan = c.plan_interruption-plan.result in
    let maxval : ℕ = s.parameters.maxval in
    let some : 0 < maxval = subst (λ (p : Parameters). 0 < p.maxval) (sym c.self.invariant.0) c.self.invariant.2.some_maxval in
    let most : maxval ≤ 65535 = subst (λ (p : Parameters). p.maxval ≤ 65535) (sym c.self.invariant.0) c.self.invariant.2.maxval in
    let samples : AreSamples maxval n = subst (λ (u : Unread). AreSamples u.state.parameters.maxval n) (sym c.self.view_is) c.requires.samples in
    let code : IsCode plan (interruption_word_in s n) c.k.result c.glimit.result c.self.inside.qbpp maxval = record {
      golomb = c.plan_interruption-plan.ensures.golomb;
      read_by = c.plan_interruption-plan.ensures.word;
      k_is = c.k.ensures;
      glimit_is = c.glimit.ensures;
      qbpp_is = c.self.invariant.1 ∙ ap (λ (p : Parameters). qbpp_of p.maxval) (sym c.self.invariant.0);
    } in
    let same : plan.neighbours ≡ n = c.plan_interruption-plan.ensures.neighbours in
    subst (λ (u : Unread). IfErr c.accept_interruption.result (λ fault. (other : ℕ) (rest : List Bool) → (Interrupts u.state.parameters.maxval n.a other) → u.bits ≡ golomb_bits u.state.parameters (interruption_word_in u.state n other) ++ rest → ⊥)) c.self.view_is
    (err_map c.accept_interruption.result _ _
    (λ fault none other rest h e. no_sample_taken plan (interruption_word_in s n) (Interrupts maxval n.a) c.k.result c.glimit.result c.self.inside.qbpp maxval other c.in_ok-value.value (bits_in c.self.inside.source.now) (bits_in c.take_golomb.new.self) rest
    code c.in_ok-value.ensures.ok (subst (λ (m : Neighbours). NoSample (Interrupts maxval m.a) (λ one. (interruption_word_in s m one).value) c.in_ok-value.value) same none) h (interruption_value_in s n other some most samples h.within) e)
    c.accept_interruption.ensures.none)

-- ---- how the bits break

pub returns-in_err-value-clause-fault : goal.returns-in_err-value-clause-fault
returns-in_err-value-clause-fault c =
    let s : Coding = c.self.inside.state.now in
    let n : Neighbours = c.args.neighbours.now in
    let maxval : ℕ = s.parameters.maxval in
    let qbpp = c.self.invariant.1 ∙ ap (λ (p : Parameters). qbpp_of p.maxval) (sym c.self.invariant.0) in
    subst (λ (u : Unread). IfErr c.from_residual.result (λ fault. BreaksInterruption u.state n u.bits fault)) c.self.view_is
    (let fault = err_from_is_err_and c.from_residual.result c.from_residual.ensures.1 in
    rw (fault.1, fault.2)
    (golomb_breaks c.plan_interruption-plan.result (interruption_plan s n) (λ one. (interruption_word_in s n one).value) (Interrupts maxval n.a) c.k.result c.glimit.result c.self.inside.qbpp (qbpp_of maxval) (bits_in c.self.inside.source.now) _
    c.plan_interruption-plan.ensures.plan c.k.ensures c.glimit.ensures qbpp c.in_err-value.ensures.fault))

pub returns-clause-fault : goal.returns-clause-fault
returns-clause-fault c =
    let s : Coding = c.self.inside.state.now in
    let n : Neighbours = c.args.neighbours.now in
    let maxval : ℕ = s.parameters.maxval in
    let qbpp = c.self.invariant.1 ∙ ap (λ (p : Parameters). qbpp_of p.maxval) (sym c.self.invariant.0) in
    let same : c.plan_interruption-plan.result.neighbours ≡ n = c.plan_interruption-plan.ensures.neighbours in
    subst (λ (u : Unread). IfErr c.accept_interruption.result (λ fault. BreaksInterruption u.state n u.bits fault)) c.self.view_is
    (err_both c.accept_interruption.result _ _ _
    (λ fault said none. value_breaks c.plan_interruption-plan.result (interruption_plan s n) (λ one. (interruption_word_in s n one).value) (Interrupts maxval n.a) c.k.result c.glimit.result c.self.inside.qbpp (qbpp_of maxval) c.in_ok-value.value (bits_in c.self.inside.source.now) (bits_in c.take_golomb.new.self) fault
    c.plan_interruption-plan.ensures.plan c.k.ensures c.glimit.ensures qbpp c.in_ok-value.ensures.ok (subst (λ (m : Neighbours). NoSample (Interrupts maxval m.a) (λ one. (interruption_word_in s m one).value) c.in_ok-value.value) same none) said)
    c.accept_interruption.ensures.fault c.accept_interruption.ensures.none)
