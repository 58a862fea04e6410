use Rattle.ls_bits.proofs.MaskLemmas.{led}
use Rattle.ls_bits.proofs.packer.led_by_one.Goals as goal

pub returns : goal.returns
returns c = led 32 c.args.count c.args.rest c.requires.count c.requires.rest
