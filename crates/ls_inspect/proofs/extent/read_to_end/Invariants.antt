use Rattle.std.proofs.Common.{◌≡◌, length}
use Rattle.ls_stream.specs.View.Extents.{extent_at, segments_at}
use Rattle.ls_inspect.proofs.extent.read_to_end.Given as goal

-- reading the parts that are left gives what reading all bytes does
abbrev pub invariant-loop-part : goal.invariant-loop-part
invariant-loop-part l = extent_at l.fn.bytes ≡ segments_at l.rest

abbrev pub decreases-loop-part : goal.decreases-loop-part
decreases-loop-part l = length l.rest
