use Rattle.std.proofs.Common.{arith}
use Rattle.std.proofs.lemmas.Grind.{common_steps}
use Rattle.ls_film.proofs.playing.PlayFault.of.Goals as goal

pub returns-in-Input-default-Stream : goal.returns-in-Input-default-Stream
returns-in-Input-default-Stream c = grind (arith, common_steps)
