use Rattle.std.proofs.Common.{◌≡◌, take}
use Rattle.ls_frame.specs.View.Reading.{are_within}
use Rattle.ls_frame.proofs.netpbm.raster.are_within.Given as goal

-- none of those so far is over maxval
abbrev pub invariant-loop-sample : goal.invariant-loop-sample
invariant-loop-sample l = l.within ≡ are_within l.fn.maxval (take l.sample-index l.samples)
