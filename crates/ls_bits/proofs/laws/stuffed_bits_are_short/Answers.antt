use Rattle.std.proofs.Common.{suc, length, inr, refl}
use Rattle.ls_bits.proofs.StuffingLemmas.{length-groups, stuff_into-none}
use Rattle.ls_bits.proofs.laws.stuffed_bits_are_short.Goals as goal

pub returns-clause-short : goal.returns-clause-short
returns-clause-short c bits = length-groups (suc (length bits)) 8 bits (inr refl)

pub returns-clause-none : goal.returns-clause-none
returns-clause-none c = stuff_into-none
