use Rattle.ls_archive.proofs.VerdictLaws.{one_verdict, some_verdict}
use Rattle.ls_archive.proofs.laws.frames_have_one_verdict.Goals as goal

pub returns-clause-one : goal.returns-clause-one
returns-clause-one c = one_verdict

pub returns-clause-some : goal.returns-clause-some
returns-clause-some c = some_verdict
