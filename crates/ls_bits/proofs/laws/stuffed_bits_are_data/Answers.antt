use Rattle.std.proofs.Common.{suc, length, inr, refl, arith}
use Rattle.ls_bits.proofs.StuffingLemmas.{groups-data, groups-bytes}
use Rattle.ls_bits.proofs.laws.stuffed_bits_are_data.Goals as goal

pub returns-clause-data : goal.returns-clause-data
returns-clause-data c bits = (groups-data (suc (length bits)) 8 bits (inr refl) (omega arith)).0

pub returns-clause-bytes : goal.returns-clause-bytes
returns-clause-bytes c bits = groups-bytes (suc (length bits)) 8 bits (inr refl)
