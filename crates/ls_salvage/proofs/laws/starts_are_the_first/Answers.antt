use Rattle.ls_salvage.proofs.StartLemmas.{ends_at_start, none_before}
use Rattle.ls_salvage.proofs.laws.starts_are_the_first.Goals as goal

pub returns : goal.returns
returns c = record { start = ends_at_start; first = none_before }
