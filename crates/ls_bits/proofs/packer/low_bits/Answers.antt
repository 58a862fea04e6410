use Rattle.ls_bits.proofs.MaskLemmas.{masked}
use Rattle.ls_bits.proofs.packer.low_bits.Goals as goal

pub returns : goal.returns
returns c = masked 32 c.args.value c.args.count c.requires
