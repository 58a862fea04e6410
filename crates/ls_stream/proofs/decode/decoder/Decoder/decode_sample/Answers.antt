use Rattle.std.proofs.Common.{◌≡◌, ℕ, refl, ◌/◌, ◌^◌, ◌<◌, ◌≤◌, ◌++◌, List, Bool, sym, ◌∙◌, ap, subst}
use Rattle.std.specs.Prelude.{IfOk, IfErr}
use Rattle.ls_frame.specs.Parameters.{Parameters, qbpp_of}
use Rattle.ls_coding.specs.declared.neighbours.Neighbours.{Neighbours}
use Rattle.ls_bits.specs.Golomb.{TakesWord, GolombFault}
use Rattle.ls_bits.specs.View.Plain.{bits_in, bits_at}
use Rattle.ls_coding.specs.Events.{golomb_bits}
use Rattle.ls_coding.specs.View.SureZeros.{sure_zeros}
use Rattle.ls_coding.specs.View.Plans.{Planned, IsTheSample, NoSample, regular_plan}
use Rattle.ls_coding.specs.View.States.{Coding, regular_word_in}
use Rattle.ls_coding.proofs.OnceLemmas.{regular_value_in}
use Rattle.ls_coding.proofs.RegularLemmas.{err_always, ok_map, err_map}
use Rattle.std.proofs.lemmas.Result.{err_from_is_err_and}
use Rattle.ls_stream.specs.View.BitFaults.{BreaksSample}
use Rattle.ls_stream.proofs.BreakingLemmas.{err_both, golomb_breaks, value_breaks}
use Rattle.ls_stream.specs.View.Decoding.{Unread}
use Rattle.ls_stream.proofs.DecoderLemmas.{IsCode, none_taken, only_taken, no_sample_taken, limit_is, regular_limit, sample_bits, sure_takes}
use Rattle.ls_stream.proofs.decode.decoder.Decoder.decode_sample.Goals as goal

-- ---- a word that surely stands for a sample

sure_code : (c : goal.After-accept_sure_with) → IsCode c.plan_regular_with-plan.result (regular_word_in c.self.inside.state.now c.args.neighbours.now) c.k-k.result c.plan_regular_with-plan.result.glimit (qbpp_of c.self.inside.state.now.parameters.maxval) c.self.inside.state.now.parameters.maxval
sure_code c = record {
  golomb = c.plan_regular_with-plan.ensures.golomb;
  read_by = c.plan_regular_with-plan.ensures.word;
  k_is = c.k-k.ensures;
  glimit_is = refl;
  qbpp_is = refl;
}

sure_taken : (c : goal.After-accept_sure_with) → TakesWord c.k-k.result c.plan_regular_with-plan.result.glimit (qbpp_of c.self.inside.state.now.parameters.maxval) (bits_at c.self.inside.source.now c.args.at.now) c.in-Some.value (bits_at c.self.inside.source.now c.in-Some.after)
sure_taken c =
    let s : Coding = c.self.inside.state.now in
    let some : 0 < s.parameters.maxval = subst (λ (p : Parameters). 0 < p.maxval) (sym c.self.invariant.0) c.self.invariant.2.some_maxval in
    let most : s.parameters.maxval ≤ 65535 = subst (λ (p : Parameters). p.maxval ≤ 65535) (sym c.self.invariant.0) c.self.invariant.2.maxval in
    sure_takes s.parameters c.k-k.result c.plan_regular_with-plan.result.glimit c.in-Some.value (bits_at c.self.inside.source.now c.args.at.now) (bits_at c.self.inside.source.now c.in-Some.after) some most
    (ap (λ (x : Planned). x.glimit) c.plan_regular_with-plan.ensures.plan ∙ regular_limit s c.args.neighbours.now)
    (subst (λ (p : Parameters). c.in-Some.value / 2 ^ c.k-k.result < sure_zeros p c.k-k.result) (sym c.self.invariant.0)
    (subst (λ n. c.in-Some.value / 2 ^ c.k-k.result < n) (c.of.ensures ∙ ap (λ (p : Parameters). sure_zeros p c.k-k.result) c.self.invariant.4) c.in-Some.ensures.few))
    c.in-Some.ensures.word

sure_sample : (c : goal.After-accept_sure_with) → IsTheSample (λ one. one ≤ c.self.inside.state.now.parameters.maxval) (λ one. (regular_word_in c.self.inside.state.now c.args.neighbours.now one).value) c.in-Some.value c.accept_sure_with.result
sure_sample c =
    subst (λ (m : Neighbours). IsTheSample (λ one. one ≤ c.self.inside.state.now.parameters.maxval) (λ one. (regular_word_in c.self.inside.state.now m one).value) c.in-Some.value c.accept_sure_with.result)
    c.plan_regular_with-plan.ensures.neighbours c.accept_sure_with.ensures.sample

pub returns-in-Some-clause-bits : goal.returns-in-Some-clause-bits
returns-in-Some-clause-bits c =
    subst (λ (u : Unread). bits_at u.source c.args.at.now ≡ golomb_bits u.state.parameters (regular_word_in u.state c.args.neighbours.now c.accept_sure_with.result) ++ (bits_at c.self.inside.source.now c.in-Some.after)) c.self.view_is
    (sample_bits c.plan_regular_with-plan.result (regular_word_in c.self.inside.state.now c.args.neighbours.now) (λ one. one ≤ c.self.inside.state.now.parameters.maxval) c.k-k.result c.plan_regular_with-plan.result.glimit
    (qbpp_of c.self.inside.state.now.parameters.maxval) c.self.inside.state.now.parameters.maxval c.in-Some.value c.accept_sure_with.result (bits_at c.self.inside.source.now c.args.at.now) (bits_at c.self.inside.source.now c.in-Some.after) (sure_code c) (sure_taken c) (sure_sample c))

pub returns-in-Some-clause-only : goal.returns-in-Some-clause-only
returns-in-Some-clause-only c =
    let s : Coding = c.self.inside.state.now in
    let n : Neighbours = c.args.neighbours.now in
    let maxval : ℕ = s.parameters.maxval in
    let some : 0 < maxval = subst (λ (p : Parameters). 0 < p.maxval) (sym c.self.invariant.0) c.self.invariant.2.some_maxval in
    let most : maxval ≤ 65535 = subst (λ (p : Parameters). p.maxval ≤ 65535) (sym c.self.invariant.0) c.self.invariant.2.maxval in
    subst (λ (u : Unread). (other : ℕ) (rest : List Bool) → (other ≤ u.state.parameters.maxval) → bits_at u.source c.args.at.now ≡ golomb_bits u.state.parameters (regular_word_in u.state n other) ++ rest → (other ≡ c.accept_sure_with.result) × (rest ≡ (bits_at c.self.inside.source.now c.in-Some.after))) c.self.view_is
    (λ other rest h e. only_taken c.plan_regular_with-plan.result (regular_word_in s n) (λ one. one ≤ maxval) c.k-k.result c.plan_regular_with-plan.result.glimit (qbpp_of maxval) maxval other c.in-Some.value c.accept_sure_with.result
    (bits_at c.self.inside.source.now c.args.at.now) (bits_at c.self.inside.source.now c.in-Some.after) rest (sure_code c) (sure_taken c) (sure_sample c) h (regular_value_in s n other some most h) e)

-- ---- any other word

pub returns-in_err-value-clause-none : goal.returns-in_err-value-clause-none
returns-in_err-value-clause-none c =
    let s : Coding = c.self.inside.state.now in
    let n : Neighbours = c.args.neighbours.now in
    let plan = c.plan_regular_with-plan.result in
    let maxval : ℕ = s.parameters.maxval in
    let some : 0 < maxval = subst (λ (p : Parameters). 0 < p.maxval) (sym c.self.invariant.0) c.self.invariant.2.some_maxval in
    let most : maxval ≤ 65535 = subst (λ (p : Parameters). p.maxval ≤ 65535) (sym c.self.invariant.0) c.self.invariant.2.maxval in
    let code : IsCode plan (regular_word_in s n) c.k-k.result c.limit.result c.self.inside.qbpp maxval = record {
      golomb = c.plan_regular_with-plan.ensures.golomb;
      read_by = c.plan_regular_with-plan.ensures.word;
      k_is = c.k-k.ensures;
      glimit_is = (limit_is c.self.inside.state.now c.args.neighbours.now c.self.inside.presets c.limit.result c.plan_regular_with-plan.result c.limit.ensures.value c.self.invariant.0 c.plan_regular_with-plan.ensures.plan);
      qbpp_is = c.self.invariant.1 ∙ ap (λ (p : Parameters). qbpp_of p.maxval) (sym c.self.invariant.0);
    } in
    subst (λ (u : Unread). IfErr c.from_residual.result (λ fault. (other : ℕ) (rest : List Bool) → (other ≤ u.state.parameters.maxval) → bits_at u.source c.args.at.now ≡ golomb_bits u.state.parameters (regular_word_in u.state n other) ++ rest → ⊥)) c.self.view_is
    (err_always c.from_residual.result _
    (λ other rest h e. none_taken plan (regular_word_in s n) c.k-k.result c.limit.result c.self.inside.qbpp maxval other (bits_at c.self.inside.source.now c.args.at.now) rest _ code
    (subst (λ bits. GolombFault c.k-k.result c.limit.result c.self.inside.qbpp bits c.in_err-value.field-0.0) c.go_to.ensures c.in_err-value.ensures.fault) (regular_value_in s n other some most h) e))

pub returns-clause-bits : goal.returns-clause-bits
returns-clause-bits c =
    let s : Coding = c.self.inside.state.now in
    let n : Neighbours = c.args.neighbours.now in
    let plan = c.plan_regular_with-plan.result in
    let maxval : ℕ = s.parameters.maxval in
    let code : IsCode plan (regular_word_in s n) c.k-k.result c.limit.result c.self.inside.qbpp maxval = record {
      golomb = c.plan_regular_with-plan.ensures.golomb;
      read_by = c.plan_regular_with-plan.ensures.word;
      k_is = c.k-k.ensures;
      glimit_is = (limit_is c.self.inside.state.now c.args.neighbours.now c.self.inside.presets c.limit.result c.plan_regular_with-plan.result c.limit.ensures.value c.self.invariant.0 c.plan_regular_with-plan.ensures.plan);
      qbpp_is = c.self.invariant.1 ∙ ap (λ (p : Parameters). qbpp_of p.maxval) (sym c.self.invariant.0);
    } in
    let same : plan.neighbours ≡ n = c.plan_regular_with-plan.ensures.neighbours in
    subst (λ (u : Unread). IfOk c.accept_regular.result (λ sample. bits_at u.source c.args.at.now ≡ golomb_bits u.state.parameters (regular_word_in u.state n sample) ++ bits_at c.take_golomb.new.self c.place.result)) c.self.view_is
    (ok_map c.accept_regular.result _ _
    (λ found is. sample_bits plan (regular_word_in s n) (λ one. one ≤ maxval) c.k-k.result c.limit.result c.self.inside.qbpp maxval c.in_ok-value.value found (bits_at c.self.inside.source.now c.args.at.now) (bits_in c.take_golomb.new.self)
    code (subst (λ bits. TakesWord c.k-k.result c.limit.result c.self.inside.qbpp bits c.in_ok-value.value (bits_in c.take_golomb.new.self)) c.go_to.ensures c.in_ok-value.ensures.ok)
    (subst (λ (m : Neighbours). IsTheSample (λ one. one ≤ maxval) (λ one. (regular_word_in s m one).value) c.in_ok-value.value found) same is)
    ∙ ap (λ bits. golomb_bits s.parameters (regular_word_in s n found) ++ bits) (sym c.place.ensures.bits))
    c.accept_regular.ensures.ok)

pub returns-clause-only : goal.returns-clause-only
returns-clause-only c =
    let s : Coding = c.self.inside.state.now in
    let n : Neighbours = c.args.neighbours.now in
    let plan = c.plan_regular_with-plan.result in
    let maxval : ℕ = s.parameters.maxval in
    let some : 0 < maxval = subst (λ (p : Parameters). 0 < p.maxval) (sym c.self.invariant.0) c.self.invariant.2.some_maxval in
    let most : maxval ≤ 65535 = subst (λ (p : Parameters). p.maxval ≤ 65535) (sym c.self.invariant.0) c.self.invariant.2.maxval in
    let code : IsCode plan (regular_word_in s n) c.k-k.result c.limit.result c.self.inside.qbpp maxval = record {
      golomb = c.plan_regular_with-plan.ensures.golomb;
      read_by = c.plan_regular_with-plan.ensures.word;
      k_is = c.k-k.ensures;
      glimit_is = (limit_is c.self.inside.state.now c.args.neighbours.now c.self.inside.presets c.limit.result c.plan_regular_with-plan.result c.limit.ensures.value c.self.invariant.0 c.plan_regular_with-plan.ensures.plan);
      qbpp_is = c.self.invariant.1 ∙ ap (λ (p : Parameters). qbpp_of p.maxval) (sym c.self.invariant.0);
    } in
    let same : plan.neighbours ≡ n = c.plan_regular_with-plan.ensures.neighbours in
    subst (λ (u : Unread). IfOk c.accept_regular.result (λ sample. (other : ℕ) (rest : List Bool) → (other ≤ u.state.parameters.maxval) → bits_at u.source c.args.at.now ≡ golomb_bits u.state.parameters (regular_word_in u.state n other) ++ rest → (other ≡ sample) × (rest ≡ bits_at c.take_golomb.new.self c.place.result))) c.self.view_is
    (ok_map c.accept_regular.result _ _
    (λ found is other rest h e.
    let same_one = only_taken plan (regular_word_in s n) (λ one. one ≤ maxval) c.k-k.result c.limit.result c.self.inside.qbpp maxval other c.in_ok-value.value found (bits_at c.self.inside.source.now c.args.at.now) (bits_in c.take_golomb.new.self) rest
    code (subst (λ bits. TakesWord c.k-k.result c.limit.result c.self.inside.qbpp bits c.in_ok-value.value (bits_in c.take_golomb.new.self)) c.go_to.ensures c.in_ok-value.ensures.ok) (subst (λ (m : Neighbours). IsTheSample (λ one. one ≤ maxval) (λ one. (regular_word_in s m one).value) c.in_ok-value.value found) same is) h (regular_value_in s n other some most h) e in
    (same_one.0, same_one.1 ∙ sym c.place.ensures.bits))
    c.accept_regular.ensures.ok)

pub returns-clause-none : goal.returns-clause-none
returns-clause-none c =
    let s : Coding = c.self.inside.state.now in
    let n : Neighbours = c.args.neighbours.now in
    let plan = c.plan_regular_with-plan.result in
    let maxval : ℕ = s.parameters.maxval in
    let some : 0 < maxval = subst (λ (p : Parameters). 0 < p.maxval) (sym c.self.invariant.0) c.self.invariant.2.some_maxval in
    let most : maxval ≤ 65535 = subst (λ (p : Parameters). p.maxval ≤ 65535) (sym c.self.invariant.0) c.self.invariant.2.maxval in
    let code : IsCode plan (regular_word_in s n) c.k-k.result c.limit.result c.self.inside.qbpp maxval = record {
      golomb = c.plan_regular_with-plan.ensures.golomb;
      read_by = c.plan_regular_with-plan.ensures.word;
      k_is = c.k-k.ensures;
      glimit_is = (limit_is c.self.inside.state.now c.args.neighbours.now c.self.inside.presets c.limit.result c.plan_regular_with-plan.result c.limit.ensures.value c.self.invariant.0 c.plan_regular_with-plan.ensures.plan);
      qbpp_is = c.self.invariant.1 ∙ ap (λ (p : Parameters). qbpp_of p.maxval) (sym c.self.invariant.0);
    } in
    let same : plan.neighbours ≡ n = c.plan_regular_with-plan.ensures.neighbours in
    subst (λ (u : Unread). IfErr c.accept_regular.result (λ fault. (other : ℕ) (rest : List Bool) → (other ≤ u.state.parameters.maxval) → bits_at u.source c.args.at.now ≡ golomb_bits u.state.parameters (regular_word_in u.state n other) ++ rest → ⊥)) c.self.view_is
    (err_map c.accept_regular.result _ _
    (λ fault none other rest h e. no_sample_taken plan (regular_word_in s n) (λ one. one ≤ maxval) c.k-k.result c.limit.result c.self.inside.qbpp maxval other c.in_ok-value.value (bits_at c.self.inside.source.now c.args.at.now) (bits_in c.take_golomb.new.self) rest
    code (subst (λ bits. TakesWord c.k-k.result c.limit.result c.self.inside.qbpp bits c.in_ok-value.value (bits_in c.take_golomb.new.self)) c.go_to.ensures c.in_ok-value.ensures.ok) (subst (λ (m : Neighbours). NoSample (λ one. one ≤ maxval) (λ one. (regular_word_in s m one).value) c.in_ok-value.value) same none) h (regular_value_in s n other some most h) e)
    c.accept_regular.ensures.none)

-- ---- how the bits break

pub returns-in_err-value-clause-fault : goal.returns-in_err-value-clause-fault
returns-in_err-value-clause-fault c =
    let s : Coding = c.self.inside.state.now in
    let n : Neighbours = c.args.neighbours.now in
    let maxval : ℕ = s.parameters.maxval in
    let qbpp = c.self.invariant.1 ∙ ap (λ (p : Parameters). qbpp_of p.maxval) (sym c.self.invariant.0) in
    subst (λ (u : Unread). IfErr c.from_residual.result (λ fault. BreaksSample u.state n (bits_at u.source c.args.at.now) fault)) c.self.view_is
    (let fault = err_from_is_err_and c.from_residual.result c.from_residual.ensures.1 in
    rw (fault.1, fault.2)
    (golomb_breaks c.plan_regular_with-plan.result (regular_plan s n) (λ one. (regular_word_in s n one).value) (λ one. one ≤ maxval) c.k-k.result c.limit.result c.self.inside.qbpp (qbpp_of maxval) (bits_at c.self.inside.source.now c.args.at.now) _
    c.plan_regular_with-plan.ensures.plan c.k-k.ensures (limit_is c.self.inside.state.now c.args.neighbours.now c.self.inside.presets c.limit.result c.plan_regular_with-plan.result c.limit.ensures.value c.self.invariant.0 c.plan_regular_with-plan.ensures.plan) qbpp (subst (λ bits. GolombFault c.k-k.result c.limit.result c.self.inside.qbpp bits c.in_err-value.field-0.0) c.go_to.ensures c.in_err-value.ensures.fault)))

pub returns-clause-fault : goal.returns-clause-fault
returns-clause-fault c =
    let s : Coding = c.self.inside.state.now in
    let n : Neighbours = c.args.neighbours.now in
    let maxval : ℕ = s.parameters.maxval in
    let qbpp = c.self.invariant.1 ∙ ap (λ (p : Parameters). qbpp_of p.maxval) (sym c.self.invariant.0) in
    let same : c.plan_regular_with-plan.result.neighbours ≡ n = c.plan_regular_with-plan.ensures.neighbours in
    subst (λ (u : Unread). IfErr c.accept_regular.result (λ fault. BreaksSample u.state n (bits_at u.source c.args.at.now) fault)) c.self.view_is
    (err_both c.accept_regular.result _ _ _
    (λ fault said none. value_breaks c.plan_regular_with-plan.result (regular_plan s n) (λ one. (regular_word_in s n one).value) (λ one. one ≤ maxval) c.k-k.result c.limit.result c.self.inside.qbpp (qbpp_of maxval) c.in_ok-value.value (bits_at c.self.inside.source.now c.args.at.now) (bits_in c.take_golomb.new.self) fault
    c.plan_regular_with-plan.ensures.plan c.k-k.ensures (limit_is c.self.inside.state.now c.args.neighbours.now c.self.inside.presets c.limit.result c.plan_regular_with-plan.result c.limit.ensures.value c.self.invariant.0 c.plan_regular_with-plan.ensures.plan) qbpp (subst (λ bits. TakesWord c.k-k.result c.limit.result c.self.inside.qbpp bits c.in_ok-value.value (bits_in c.take_golomb.new.self)) c.go_to.ensures c.in_ok-value.ensures.ok) (subst (λ (m : Neighbours). NoSample (λ one. one ≤ maxval) (λ one. (regular_word_in s m one).value) c.in_ok-value.value) same none) said)
    c.accept_regular.ensures.fault c.accept_regular.ensures.none)
