use Rattle.ls_salvage.proofs.SalvageLemmas.{undamaged}
use Rattle.ls_salvage.proofs.laws.undamaged_ones_are_shown_whole.Goals as goal

pub returns : goal.returns
returns c = λ bytes frames parts film are.
    undamaged c.no_codestream_begins_another.ensures c.one_frame_each.ensures bytes frames parts 0 0 film are
