use Rattle.std.proofs.Common.{subst}
use Rattle.ls_film.specs.View.Parts.{GavePassed}
use Rattle.ls_archive.proofs.verifying.part.pass_codestreams.Goals as goal

pub returns-else-run-clause-passed : goal.returns-else-run-clause-passed
returns-else-run-clause-passed g c =
    subst (GavePassed (g.R.Read.remaining c.args.recording.now) (g.R.Read.remaining c.pass_streams.new.reader)) (c.in-Ok.ensures.most.1 c.if-run.false) c.in-Ok.ensures.passed

pub returns-then-run-clause-stops : goal.returns-then-run-clause-stops
returns-then-run-clause-stops g c = (c.in-Ok.ensures.lacks c.if-run.true, c.in-Ok.ensures.passed, c.in-Ok.ensures.ended c.if-run.true)
