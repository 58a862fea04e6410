use Rattle.std.proofs.Common.{◌≡◌, ◌≤◌, pos, ap, sym, subst, ◌∙◌, arith}
use mir.Syntax.{w32}
use mir.Val.{to_z, of_z}
use Rattle.ls_frame.specs.Parameters.{Parameters, range_of}
use Rattle.ls_coding.specs.Errors.{IsReduced, is_inverted, mapped_error, error_of}
use Rattle.ls_coding.specs.View.Fields.{stats_at}
use Rattle.ls_coding.specs.View.Plans.{IsTheSample}
use Rattle.ls_coding.proofs.SignedLemmas.{through}
use Rattle.ls_coding.proofs.StatsLemmas.{mean_is}
use Rattle.ls_coding.proofs.SureLemmas.{reduced_by_value}
use Rattle.ls_coding.proofs.counters.Counters.accept_sure.Goals as goal

pub sample_of-sample-requires-clause-reduced : goal.sample_of-sample-requires-clause-reduced
sample_of-sample-requires-clause-reduced c =
    subst (λ (p : Parameters). IsReduced (range_of p.maxval) (to_z w32 (of_z w32 c.unmapped_error-reduced.result))) (sym c.requires.presets)
    (subst (IsReduced (range_of c.args.self.now.presets.maxval)) (sym (through c.unmapped_error-reduced.result c.unmapped_error-reduced.type_inv))
    (reduced_by_value _ c.args.value _ c.unmapped_error-reduced.result c.unmapped_error-reduced.ensures.value c.requires.value))

pub add-requires-clause-error : goal.add-requires-clause-error
add-requires-clause-error c =
    subst (IsReduced (range_of c.args.self.now.presets.maxval)) (sym (through c.unmapped_error-reduced.result c.unmapped_error-reduced.type_inv))
    (reduced_by_value _ c.args.value _ c.unmapped_error-reduced.result c.unmapped_error-reduced.ensures.value c.requires.value)

pub returns-clause-sample : goal.returns-clause-sample
returns-clause-sample c =
    let s = stats_at c.args.self.now.a c.args.self.now.b c.args.self.now.c c.args.self.now.n c.args.number in
    let inverted = ap (λ z. is_inverted c.args.k z s.n) (mean_is c.args.self.now.presets.reset _ s (c.requires.sound.all.regular c.args.number c.requires.number) (omega arith)) in
    let passed : to_z w32 (of_z w32 c.unmapped_error-reduced.result) ≡ c.unmapped_error-reduced.result = through c.unmapped_error-reduced.result c.unmapped_error-reduced.type_inv in
    subst (λ (p : Parameters). IsTheSample (λ one. one ≤ p.maxval) (λ one. mapped_error (is_inverted c.args.k s.b s.n) (error_of p c.args.negative (pos c.args.prediction) one)) c.args.value c.sample_of-sample.result) c.requires.presets
    (record {
      is_sample = c.sample_of-sample.ensures.within;
      has_value = ap (λ l. mapped_error l (error_of c.args.presets c.args.negative (pos c.args.prediction) c.sample_of-sample.result)) (sym inverted)
          ∙ ap (mapped_error _) (c.sample_of-sample.ensures.error ∙ passed) ∙ c.unmapped_error-reduced.ensures.value;
      only = λ other within same. c.sample_of-sample.ensures.only other within
          (c.unmapped_error-reduced.ensures.only (error_of c.args.presets c.args.negative (pos c.args.prediction) other) (ap (λ l. mapped_error l (error_of c.args.presets c.args.negative (pos c.args.prediction) other)) inverted ∙ same) ∙ sym passed);
    })
