use Rattle.std.proofs.Common.{◌≡◌, ℕ, ℤ, pos, ap, sym, subst, ◌∙◌, arith}
use Rattle.std.proofs.lemmas.Bool.{false≢true}
use mir.Syntax.{w32}
use mir.Val.{to_z, of_z}
use Rattle.ls_frame.specs.Parameters.{range_of}
use Rattle.ls_coding.specs.Errors.{IsReduced, error_of}
use Rattle.ls_coding.specs.Interruptions.{ri_type_of, interruption_negative, interruption_prediction, ri_value, interruption_error, interruption_value}
use Rattle.ls_coding.specs.View.Fields.{counts_at}
use Rattle.ls_coding.proofs.SignedLemmas.{through}
use Rattle.ls_coding.proofs.ErrorLemmas.{error_of-reduced, interruption_prediction_small, interrupting_error}
use Rattle.ls_coding.proofs.FieldLemmas.{value_is}
use Rattle.ls_coding.proofs.counters.Counters.accept_interruption.Goals as goal

pub returns-then-not-is_reduced-clause-none : goal.returns-then-not-is_reduced-clause-none
returns-then-not-is_reduced-clause-none c sample may same =
    let p = c.args.self.now.presets in
    let x = c.args.neighbours.now in
    let s = c.args.self.now in
    let e : ℤ = interruption_error p x sample in
    let value = value_is s.a s.n s.nn (ri_type_of x) c.ri_type_of-ri_type.result c.ri_value-which.result c.args.k e c.ri_type_of-ri_type.ensures c.ri_value-which.ensures.value c.requires.k in
    let found : e ≡ c.interruption_error_of-error.result =
    c.interruption_error_of-error.ensures.only e (λ ri_type zero. interrupting_error p x sample c.requires.samples may (sym c.ri_type_of-ri_type.ensures ∙ ri_type) zero) (value ∙ same) in
    let reduced : IsReduced (range_of p.maxval) e = error_of-reduced p (interruption_prediction x) sample (interruption_negative x) (interruption_prediction_small p.maxval x c.requires.samples) may.within in
    let passed : IsReduced (range_of p.maxval) (to_z w32 (of_z w32 c.interruption_error_of-error.result)) =
    subst (IsReduced (range_of p.maxval)) (found ∙ sym (through c.interruption_error_of-error.result c.interruption_error_of-error.type_inv)) reduced in
    absurd (false≢true (sym c.if-not-is_reduced.true ∙ c.is_reduced.ensures.1 (rw c.range.ensures passed)))

pub returns-then-sample-neighbours-clause-none : goal.returns-then-sample-neighbours-clause-none
returns-then-sample-neighbours-clause-none c sample may same =
    let p = c.args.self.now.presets in
    let x = c.args.neighbours.now in
    let s = c.args.self.now in
    let e : ℤ = interruption_error p x sample in
    let value = value_is s.a s.n s.nn (ri_type_of x) c.ri_type_of-ri_type.result c.ri_value-which.result c.args.k e c.ri_type_of-ri_type.ensures c.ri_value-which.ensures.value c.requires.k in
    let found : e ≡ c.interruption_error_of-error.result =
    c.interruption_error_of-error.ensures.only e (λ ri_type zero. interrupting_error p x sample c.requires.samples may (sym c.ri_type_of-ri_type.ensures ∙ ri_type) zero) (value ∙ same) in
    let same_error : error_of p c.interruption_negative.result (pos c.interruption_prediction.result) sample ≡ e =
    ap (λ t. error_of p t (pos c.interruption_prediction.result) sample) c.interruption_negative.ensures ∙ ap (λ m. error_of p (interruption_negative x) (pos m) sample) c.interruption_prediction.ensures in
    let one : sample ≡ c.sample_of-sample.result =
    c.sample_of-sample.ensures.only sample may.within (same_error ∙ found ∙ sym (through c.interruption_error_of-error.result c.interruption_error_of-error.type_inv)) in
    may.other (omega arith)

pub add_interruption-requires-clause-error : goal.add_interruption-requires-clause-error
add_interruption-requires-clause-error c = rw c.range.ensures at (c.is_reduced.ensures.0 c.if-not-is_reduced.false)

pub returns-clause-ok : goal.returns-clause-ok
returns-clause-ok c =
    let p = c.args.self.now.presets in
    let x = c.args.neighbours.now in
    let s = c.args.self.now in
    let value : (e : ℤ) → _ = λ (e : ℤ). value_is s.a s.n s.nn (ri_type_of x) c.ri_type_of-ri_type.result c.ri_value-which.result c.args.k e c.ri_type_of-ri_type.ensures c.ri_value-which.ensures.value c.requires.k in
    let same_error : (sample : ℕ) → error_of p c.interruption_negative.result (pos c.interruption_prediction.result) sample ≡ interruption_error p x sample =
    λ sample. ap (λ t. error_of p t (pos c.interruption_prediction.result) sample) c.interruption_negative.ensures ∙ ap (λ m. error_of p (interruption_negative x) (pos m) sample) c.interruption_prediction.ensures in
    let passed = through c.interruption_error_of-error.result c.interruption_error_of-error.type_inv in
    record {
      is_sample = record { within = c.sample_of-sample.ensures.within; other = omega arith };
      has_value = ap (interruption_value (ri_type_of x) (counts_at s.a s.n s.nn (ri_value (ri_type_of x)))) (sym (same_error c.sample_of-sample.result) ∙ c.sample_of-sample.ensures.error ∙ passed)
          ∙ sym (value c.interruption_error_of-error.result) ∙ c.interruption_error_of-error.ensures.value;
      only = λ sample may same. c.sample_of-sample.ensures.only sample may.within
          (same_error sample
          ∙ c.interruption_error_of-error.ensures.only (interruption_error p x sample) (λ ri_type zero. interrupting_error p x sample c.requires.samples may (sym c.ri_type_of-ri_type.ensures ∙ ri_type) zero) (value (interruption_error p x sample) ∙ same)
          ∙ sym passed);
    }
