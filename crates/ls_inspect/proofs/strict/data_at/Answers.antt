use Rattle.std.proofs.Common.{ap}
use Rattle.ls_stream.proofs.FrontLemmas.{data_length-only}
use Rattle.std.proofs.Common.{take}
use Rattle.ls_inspect.proofs.strict.data_at.Goals as goal

pub returns : goal.returns
returns c = ap (λ n. take n c.args.bytes.now) (data_length-only c.args.bytes.now c.data_of.result.len c.data_of.ensures.len)
