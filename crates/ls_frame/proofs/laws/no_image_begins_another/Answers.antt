use Rattle.ls_frame.proofs.NextLemmas.{begins_none}
use Rattle.ls_frame.proofs.laws.no_image_begins_another.Goals as goal

pub returns : goal.returns
returns c = begins_none
