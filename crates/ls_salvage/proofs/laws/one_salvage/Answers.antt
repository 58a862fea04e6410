use Rattle.ls_salvage.proofs.SalvageLemmas.{one_salvage}
use Rattle.ls_salvage.proofs.laws.one_salvage.Goals as goal

pub returns : goal.returns
returns c = one_salvage c.no_codestream_begins_another.ensures c.one_frame_each.ensures c.bytes_have_one_first_fault.ensures.one
