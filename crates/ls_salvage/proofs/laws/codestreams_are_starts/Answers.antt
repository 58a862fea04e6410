use Rattle.ls_salvage.proofs.StartLemmas.{spelled_start}
use Rattle.ls_salvage.proofs.laws.codestreams_are_starts.Goals as goal

pub returns : goal.returns
returns c = spelled_start
