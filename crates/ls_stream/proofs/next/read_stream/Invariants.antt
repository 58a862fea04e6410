use Rattle.std.proofs.Common.{◌≡◌, ◌-◌, ◌≤◌, ◌++◌, length, IsSome}
use Rattle.ls_frame.specs.View.Known.{known}
use Rattle.ls_stream.specs.Grammar.{most_bytes}
use Rattle.ls_stream.specs.View.Places.{IsPlaceAfter}
use Rattle.ls_stream.proofs.next.read_stream.Given as goal

-- the bytes so far were read, and reading goes on from the place
abbrev pub invariant-steps : goal.invariant-steps
invariant-steps g l =
    let remaining = g.R.Read.remaining in record {
      failures : g.R.Feed.failed_reads l.reader ≡ g.R.Feed.failed_reads l.fn.reader;
      few : length l.bytes.items ≤ most_bytes;
      place : IsPlaceAfter l.place l.bytes.items;
      read : IsSome (remaining l.fn.reader) → IsSome (remaining l.reader) × (known (remaining l.fn.reader) ≡ l.bytes.items ++ known (remaining l.reader));
    }

abbrev pub decreases-steps : goal.decreases-steps
decreases-steps g l = most_bytes - length l.bytes.items
