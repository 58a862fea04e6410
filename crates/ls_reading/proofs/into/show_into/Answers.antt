use Rattle.std.proofs.Common.{arith, rules}
use Rattle.ls_reading.specs.View.Each.{IsPlayed}
use Rattle.ls_reading.proofs.EachLemmas.{one-more}
use Rattle.ls_reading.proofs.into.show_into.Goals as goal

pub loop-file-preserved : goal.loop-file-preserved
loop-file-preserved g c = (
  search rules,
  λ done.
      let both = c.worse-status.ensures.done done in
      one-more (λ file. IsPlayed g.O.Opens.holds g.O.File.Write.contents c.args.program.opener c.args.part file.now) c.args.files.now c.loop-file.file-index _ c.loop-file-test.true
      (c.loop-file.invariant.1 both.0) (c.show_one-own.ensures.played both.1),
)

pub returns-clause-each : goal.returns-clause-each
returns-clause-each g c = λ done k d less. c.loop-file.invariant.1 done k d (omega arith) (omega (arith, less))
