use Rattle.ls_coding.proofs.RunLaws.{joined}
use Rattle.ls_coding.proofs.laws.runs_join.Goals as goal

pub returns : goal.returns
returns c = joined
