use Rattle.std.proofs.Common.{arith}
use Rattle.ls_coding.specs.View.Fields.{stats_at}
use Rattle.ls_coding.proofs.WordLemmas.{regular_code}
use Rattle.ls_coding.proofs.counters.Counters.plan.Goals as goal

pub returns-clause-golomb : goal.returns-clause-golomb
returns-clause-golomb c =
    rw (c.parameter.ensures, c.requires.sound.limit_is)
    (regular_code c.args.self.now.presets.reset c.args.self.now.presets.maxval (stats_at c.args.self.now.a c.args.self.now.b c.args.self.now.c c.args.self.now.n c.args.context.number) (omega (arith, c.requires.sound.legal.some_maxval)) (omega (arith, c.requires.sound.legal.maxval))
    (c.requires.sound.all.regular c.args.context.number c.requires.within))
