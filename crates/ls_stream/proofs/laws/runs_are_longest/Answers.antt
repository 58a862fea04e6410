use Rattle.std.proofs.Common.{◌-◌}
use Rattle.ls_stream.specs.Planes.{left}
use Rattle.ls_stream.proofs.CostLemmas.{longest}
use Rattle.ls_stream.proofs.laws.runs_are_longest.Goals as goal

pub returns : goal.returns
returns c plane i j = longest plane i (left plane i j) (plane.width - j) j
