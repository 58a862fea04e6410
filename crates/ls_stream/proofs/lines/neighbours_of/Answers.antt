use Rattle.std.proofs.Common.{rules}
use Rattle.ls_stream.proofs.lines.neighbours_of.Goals as goal

pub returns : goal.returns
returns g c = search rules
