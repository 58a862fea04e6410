use Rattle.std.proofs.Common.{◌≤◌, ◌^◌, ap, sym, subst, ◌∙◌, arith}
use Rattle.ls_frame.specs.Parameters.{qbpp_of}
use Rattle.ls_coding.specs.Errors.{mapped_error}
use Rattle.ls_coding.specs.View.Fields.{stats_at}
use Rattle.ls_coding.proofs.SignedLemmas.{through}
use Rattle.ls_coding.proofs.StatsLemmas.{mean_low, mean_high}
use Rattle.ls_coding.proofs.WordLemmas.{regular_code, regular_value}
use Rattle.ls_coding.proofs.counters.Counters.code.Goals as goal

pub mapped_error-value-requires-clause-mean_low : goal.mapped_error-value-requires-clause-mean_low
mapped_error-value-requires-clause-mean_low c =
    mean_low _ _ (stats_at c.args.self.now.a c.args.self.now.b c.args.self.now.c c.args.self.now.n c.from-number.result)
    (c.requires.sound.all.regular c.from-number.result (omega arith)) (omega arith)

pub mapped_error-value-requires-clause-mean_high : goal.mapped_error-value-requires-clause-mean_high
mapped_error-value-requires-clause-mean_high c =
    mean_high _ _ (stats_at c.args.self.now.a c.args.self.now.b c.args.self.now.c c.args.self.now.n c.from-number.result)
    (c.requires.sound.all.regular c.from-number.result (omega arith)) (omega arith)

pub returns-clause-golomb : goal.returns-clause-golomb
returns-clause-golomb c =
    rw (c.parameter-k.ensures, c.requires.sound.limit_is)
    (regular_code c.args.self.now.presets.reset c.args.self.now.presets.maxval (stats_at c.args.self.now.a c.args.self.now.b c.args.self.now.c c.args.self.now.n c.from-number.result) (omega arith) (omega arith)
    (c.requires.sound.all.regular c.from-number.result (omega arith)))

pub returns-clause-value : goal.returns-clause-value
returns-clause-value c =
    subst (λ v. v ≤ 2 ^ qbpp_of c.args.self.now.presets.maxval) (sym (c.mapped_error-value.ensures ∙ ap (mapped_error _) (through c.mirrored_error-error.result c.mirrored_error-error.type_inv)))
    (regular_value _ c.args.self.now.presets.maxval c.mirrored_error-error.result (omega arith) (omega arith) c.mirrored_error-error.ensures.reduced)
