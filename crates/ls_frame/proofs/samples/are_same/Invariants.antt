-- The samples compared so far and the rest together decide the result.
use Rattle.std.proofs.Common.{◌≡◌, ◌==◌, ◌&&◌, drop}
use lib.Pointwise.{pointwise}
use Rattle.ls_frame.proofs.samples.are_same.Given as goal

abbrev pub invariant-loop-place : goal.invariant-loop-place
invariant-loop-place l = pointwise ◌==◌ l.one l.other ≡ (l.same && pointwise ◌==◌ (drop l.place l.one) (drop l.place l.other))
