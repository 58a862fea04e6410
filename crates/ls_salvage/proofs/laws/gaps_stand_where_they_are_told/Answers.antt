use Rattle.std.proofs.Common.{[], refl, arith}
use Rattle.ls_salvage.proofs.SalvageLemmas.{gaps_stand}
use Rattle.ls_salvage.proofs.laws.gaps_stand_where_they_are_told.Goals as goal

pub returns : goal.returns
returns c = λ bytes parts are. gaps_stand bytes bytes [] 0 0 parts (omega arith) refl are
