use Rattle.std.proofs.Common.{arith}
use Rattle.std.proofs.lemmas.Grind.{common_steps}
use Rattle.ls_salvage.proofs.starts.may_follow_soi.Goals as goal

pub returns-then-code-ge-APP0 : goal.returns-then-code-ge-APP0
returns-then-code-ge-APP0 c = grind (arith, common_steps)
