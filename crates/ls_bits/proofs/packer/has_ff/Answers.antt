use Rattle.ls_bits.proofs.FfLemmas.{no_ff}
use Rattle.ls_bits.proofs.packer.has_ff.Goals as goal

pub returns : goal.returns
returns c = no_ff c.args.word
