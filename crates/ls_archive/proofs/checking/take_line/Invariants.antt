use Rattle.std.proofs.Common.{◌≡◌, ◌-◌, ◌≤◌, ◌++◌, length}
use Rattle.ls_frame.specs.View.Known.{Tells, known}
use Rattle.ls_archive.specs.View.Checking.{HasNoLineFeed}
use Rattle.ls_archive.proofs.checking.take_line.Given as goal

-- the bytes so far were given
abbrev pub invariant-loop-reader : goal.invariant-loop-reader
invariant-loop-reader g l = record {
  reads : g.I.Feed.failed_reads l.reader ≡ g.I.Feed.failed_reads l.fn.reader;
  few : length l.line.items ≤ 1024;
  one : HasNoLineFeed l.line.items;
  gave : Tells (g.I.Read.remaining l.fn.reader) → Tells (g.I.Read.remaining l.reader)
      × (known (g.I.Read.remaining l.fn.reader) ≡ l.line.items ++ known (g.I.Read.remaining l.reader));
}

abbrev pub decreases-loop-reader : goal.decreases-loop-reader
decreases-loop-reader g l = 1024 - length l.line.items
