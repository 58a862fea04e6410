use Rattle.std.proofs.Common.{◌-◌, length}
use Rattle.ls_archive.proofs.places.pass_ended.Given as goal

abbrev pub decreases-here : goal.decreases-here
decreases-here l = length l.wanted - l.here
