use Rattle.std.proofs.Common.{◌≡◌, length}
use Rattle.ls_stream.specs.View.Reading.{ahead_at, fields_of}
use Rattle.ls_stream.proofs.decode.markers.find_marker.Given as goal

-- reading the bytes that are left gives what reading all bytes does
abbrev pub invariant-loop-next : goal.invariant-loop-next
invariant-loop-next l = ahead_at l.late (fields_of l.fn.written) l.fn.bytes ≡ ahead_at l.late (fields_of l.written) l.rest

abbrev pub decreases-loop-next : goal.decreases-loop-next
decreases-loop-next l = length l.rest
