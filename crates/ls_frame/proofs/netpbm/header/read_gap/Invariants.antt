use Rattle.std.proofs.Common.{◌≡◌, IsSome, false}
use Rattle.ls_frame.specs.View.Known.{known}
use Rattle.ls_frame.specs.View.Reading.{gap_at}
use Rattle.ls_frame.proofs.netpbm.header.read_gap.Given as goal

-- reading the bytes left, in a comment or not, gives the same as reading all from the start
abbrev pub invariant-loop-byte : goal.invariant-loop-byte
invariant-loop-byte g l =
    let remaining = g.R.Read.remaining in
    (g.R.Feed.failed_reads l.reader ≡ g.R.Feed.failed_reads l.fn.reader)
    × (IsSome (remaining l.fn.reader) → IsSome (remaining l.reader)
    × (gap_at false l.fn.allowed (known (remaining l.fn.reader)) ≡ gap_at l.in_comment l.allowed (known (remaining l.reader))))

abbrev pub decreases-loop-byte : goal.decreases-loop-byte
decreases-loop-byte g l = l.allowed
