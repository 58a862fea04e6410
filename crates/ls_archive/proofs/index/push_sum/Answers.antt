use Rattle.std.proofs.Common.{arith}
use Rattle.std.proofs.lemmas.Grind.{common_steps}
use Rattle.ls_archive.proofs.index.push_sum.Goals as goal

pub returns-clause-pushed : goal.returns-clause-pushed
returns-clause-pushed c = grind (arith, common_steps)
