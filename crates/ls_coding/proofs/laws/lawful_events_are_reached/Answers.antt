use Rattle.ls_coding.proofs.LawfulLemmas.{reached}
use Rattle.ls_coding.proofs.laws.lawful_events_are_reached.Goals as goal

pub returns : goal.returns
returns c = reached
