use Rattle.ls_frame.proofs.NextLemmas.{one_frame}
use Rattle.ls_frame.proofs.laws.images_have_one_frame.Goals as goal

pub returns : goal.returns
returns c = one_frame
