use Rattle.std.proofs.Common.{arith}
use Rattle.std.proofs.lemmas.Grind.{common_steps}
use Rattle.ls_frame.proofs.buffered.Buffered.put_back.Goals as goal

pub returns-clause-back : goal.returns-clause-back
returns-clause-back g c = grind (arith, common_steps)
