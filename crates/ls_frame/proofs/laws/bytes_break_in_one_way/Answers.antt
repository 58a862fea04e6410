use Rattle.ls_frame.proofs.NextLemmas.{one_way}
use Rattle.ls_frame.proofs.laws.bytes_break_in_one_way.Goals as goal

pub returns : goal.returns
returns c = one_way
