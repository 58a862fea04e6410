use Rattle.std.proofs.Common.{arith}
use Rattle.std.proofs.lemmas.Grind.{common_steps}
use Rattle.ls_archive.proofs.verifying.verdict_at.Goals as goal

pub returns-in-None-Some : goal.returns-in-None-Some
returns-in-None-Some c = grind (arith, common_steps)

pub returns-in-Some-Some : goal.returns-in-Some-Some
returns-in-Some-Some c = grind (arith, common_steps)
