use Rattle.ls_bits.proofs.MaskLemmas.{joined-is}
use Rattle.ls_bits.proofs.stuffed.joined.Goals as goal

pub returns : goal.returns
returns c = joined-is c.args.high c.args.low c.args.count c.requires.high c.requires.count c.requires.low
