use Rattle.std.proofs.Common.{◌≡◌, ◌≤◌, length}
use Rattle.ls_stream.specs.View.Reading.{code_at}
use Rattle.ls_inspect.proofs.markers.read_code.Given as goal

-- reading the bytes that are left gives what reading all bytes does
abbrev pub invariant-loop-byte : goal.invariant-loop-byte
invariant-loop-byte l = (length l.rest ≤ length l.fn.bytes) × (code_at l.fn.bytes ≡ code_at l.rest)

abbrev pub decreases-loop-byte : goal.decreases-loop-byte
decreases-loop-byte l = length l.rest
