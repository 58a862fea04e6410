use Rattle.ls_archive.proofs.FormLemmas.{one_index}
use Rattle.ls_archive.proofs.laws.recordings_have_one_index.Goals as goal

pub returns : goal.returns
returns c = one_index
