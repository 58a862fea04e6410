use Rattle.std.proofs.Common.{suc, length, inr, refl, arith}
use Rattle.ls_bits.proofs.StuffingLemmas.{groups-unstuffed}
use Rattle.ls_bits.proofs.laws.unstuffing_gives_the_bits.Goals as goal

pub returns : goal.returns
returns c bits = groups-unstuffed (suc (length bits)) 8 bits (inr refl) (omega arith)
