use Rattle.std.proofs.Common.{refl}
use Rattle.ls_bits.proofs.BitLemmas.{first_one}
use Rattle.ls_bits.proofs.stuffed.leading_zeros.Goals as goal

pub returns : goal.returns
returns c = first_one c.args.held c.args.word _ c.requires.some c.requires.few refl
