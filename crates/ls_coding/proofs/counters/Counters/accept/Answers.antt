use Rattle.std.proofs.Common.{◌≡◌, ℤ, pos, ap, sym, subst, ◌∙◌, arith, rules}
use Rattle.std.proofs.lemmas.Bool.{false≢true}
use mir.Syntax.{w32}
use mir.Val.{to_z, of_z}
use Rattle.ls_frame.specs.Parameters.{range_of}
use Rattle.ls_coding.specs.Errors.{IsReduced, is_inverted, mapped_error, error_of}
use Rattle.ls_coding.specs.View.Fields.{stats_at}
use Rattle.ls_coding.proofs.SignedLemmas.{through}
use Rattle.ls_coding.proofs.StatsLemmas.{mean_is}
use Rattle.ls_coding.proofs.ErrorLemmas.{error_of-reduced}
use Rattle.ls_coding.proofs.counters.Counters.accept.Goals as goal

pub returns-then-not-is_reduced-clause-none : goal.returns-then-not-is_reduced-clause-none
returns-then-not-is_reduced-clause-none c sample within same =
    let s = stats_at c.args.self.now.a c.args.self.now.b c.args.self.now.c c.args.self.now.n c.args.number in
    let e : ℤ = error_of c.args.self.now.presets c.args.negative (pos c.args.prediction) sample in
    let inverted = ap (λ z. is_inverted c.args.k z s.n) (mean_is c.args.self.now.presets.reset _ s (c.requires.sound.all.regular c.args.number c.requires.number) (omega arith)) in
    let found : e ≡ c.unmapped_error-error.result = c.unmapped_error-error.ensures.only e (ap (λ l. mapped_error l e) inverted ∙ same) in
    let reduced : IsReduced (range_of c.args.self.now.presets.maxval) e = error_of-reduced c.args.self.now.presets c.args.prediction sample c.args.negative c.requires.prediction within in
    let passed : IsReduced (range_of c.args.self.now.presets.maxval) (to_z w32 (of_z w32 c.unmapped_error-error.result)) =
    subst (IsReduced (range_of c.args.self.now.presets.maxval)) (found ∙ sym (through c.unmapped_error-error.result c.unmapped_error-error.type_inv)) reduced in
    absurd (false≢true (sym c.if-not-is_reduced.true ∙ c.is_reduced.ensures.1 (rw c.range.ensures passed)))

pub sample_of-sample-requires-clause-reduced : goal.sample_of-sample-requires-clause-reduced
sample_of-sample-requires-clause-reduced c = rw c.range.ensures at (c.is_reduced.ensures.0 c.if-not-is_reduced.false)

pub add-requires-clause-error : goal.add-requires-clause-error
add-requires-clause-error c = rw c.range.ensures at (c.is_reduced.ensures.0 c.if-not-is_reduced.false)

pub returns-clause-ok : goal.returns-clause-ok
returns-clause-ok c =
    let s = stats_at c.args.self.now.a c.args.self.now.b c.args.self.now.c c.args.self.now.n c.args.number in
    let inverted = ap (λ z. is_inverted c.args.k z s.n) (mean_is c.args.self.now.presets.reset _ s (c.requires.sound.all.regular c.args.number c.requires.number) (omega arith)) in
    let passed : to_z w32 (of_z w32 c.unmapped_error-error.result) ≡ c.unmapped_error-error.result = through c.unmapped_error-error.result c.unmapped_error-error.type_inv in
    record {
      is_sample = c.sample_of-sample.ensures.within;
      has_value = ap (λ l. mapped_error l (error_of c.args.self.now.presets c.args.negative (pos c.args.prediction) c.sample_of-sample.result)) (sym inverted)
          ∙ ap (mapped_error _) (c.sample_of-sample.ensures.error ∙ passed) ∙ c.unmapped_error-error.ensures.value;
      only = λ other within same. c.sample_of-sample.ensures.only other within
          (c.unmapped_error-error.ensures.only (error_of c.args.self.now.presets c.args.negative (pos c.args.prediction) other) (ap (λ l. mapped_error l (error_of c.args.self.now.presets c.args.negative (pos c.args.prediction) other)) inverted ∙ same) ∙ sym passed);
    }

pub returns-then-not-is_reduced-clause-sound : goal.returns-then-not-is_reduced-clause-sound
returns-then-not-is_reduced-clause-sound c = search rules

pub returns-then-not-is_reduced-clause-unchanged : goal.returns-then-not-is_reduced-clause-unchanged
returns-then-not-is_reduced-clause-unchanged g c = search rules
