use Rattle.std.proofs.Common.{◌-◌, length}
use Rattle.ls_archive.proofs.places.pass_given.Given as goal

abbrev pub decreases-given : goal.decreases-given
decreases-given l = length l.places - l.number
