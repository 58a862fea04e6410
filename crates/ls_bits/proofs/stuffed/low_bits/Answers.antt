use Rattle.std.proofs.Common.{arith}
use Rattle.ls_bits.proofs.MaskLemmas.{masked}
use Rattle.ls_bits.proofs.stuffed.low_bits.Goals as goal

pub returns : goal.returns
returns c = masked 64 c.args.word c.args.count (omega arith)
