use Rattle.ls_stream.proofs.PlaneLaws.{planes_are_told_apart}
use Rattle.ls_stream.proofs.laws.planes_are_told_apart.Goals as goal

pub returns : goal.returns
returns c = planes_are_told_apart
