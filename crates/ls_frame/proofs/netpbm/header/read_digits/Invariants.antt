use Rattle.std.proofs.Common.{◌≡◌, ◌≤◌, IsSome}
use Rattle.ls_frame.specs.View.Known.{known}
use Rattle.ls_frame.specs.View.Reading.{digits_at}
use Rattle.ls_frame.proofs.netpbm.header.read_digits.Given as goal

-- reading the bytes left from the number so far gives the same as reading all from the start
abbrev pub invariant-loop-byte : goal.invariant-loop-byte
invariant-loop-byte g l =
    let remaining = g.R.Read.remaining in
    (l.number ≤ 65536)
    × (g.R.Feed.failed_reads l.reader ≡ g.R.Feed.failed_reads l.fn.reader)
    × (IsSome (remaining l.fn.reader) → IsSome (remaining l.reader)
    × (digits_at l.fn.number l.fn.allowed (known (remaining l.fn.reader)) ≡ digits_at l.number l.allowed (known (remaining l.reader))))

abbrev pub decreases-loop-byte : goal.decreases-loop-byte
decreases-loop-byte g l = l.allowed
