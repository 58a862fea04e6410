use Rattle.std.proofs.Common.{◌≡◌, ◌-◌, ◌≤◌, ◌++◌, length}
use Rattle.ls_frame.specs.View.Known.{Tells, known}
use Rattle.ls_archive.proofs.checking.take_bytes.Given as goal

-- the bytes so far were given
abbrev pub invariant-loop-reader : goal.invariant-loop-reader
invariant-loop-reader g l = record {
  reads : g.R.Feed.failed_reads l.reader ≡ g.R.Feed.failed_reads l.fn.reader;
  few : length l.bytes.items ≤ l.most;
  gave : Tells (g.R.Read.remaining l.fn.reader) → Tells (g.R.Read.remaining l.reader)
      × (known (g.R.Read.remaining l.fn.reader) ≡ l.bytes.items ++ known (g.R.Read.remaining l.reader));
}

abbrev pub decreases-loop-reader : goal.decreases-loop-reader
decreases-loop-reader g l = l.most - length l.bytes.items
