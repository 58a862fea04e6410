use Rattle.std.proofs.Common.{arith}
use Rattle.ls_bits.proofs.StuffedLemmas.{with_bits_are}
use Rattle.ls_bits.proofs.stuffed.with_bits.Goals as goal

pub returns : goal.returns
returns c = with_bits_are c.args.word c.args.held c.args.other c.requires (omega (arith, c.ranges.other))
