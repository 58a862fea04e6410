use Rattle.ls_salvage.proofs.SalvageLemmas.{whole_ones}
use Rattle.ls_salvage.proofs.laws.whole_ones_are_shown.Goals as goal

pub returns : goal.returns
returns c = whole_ones c.no_codestream_begins_another.ensures c.one_frame_each.ensures
