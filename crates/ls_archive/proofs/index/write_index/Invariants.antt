use Rattle.std.proofs.Common.{◌≡◌, ◌*◌, ◌^◌, ◌≤◌}
use Rattle.ls_archive.specs.View.Indexing.{HasRun}
use Rattle.ls_archive.proofs.index.write_index.Given as goal

-- the codestreams so far were read, and their lines written
abbrev pub invariant-loop-number : goal.invariant-loop-number
invariant-loop-number g l = record {
  run : HasRun l.fn.sums (g.R.Read.remaining l.fn.reader) (g.R.Read.remaining l.reader) (g.W.Write.contents l.fn.writer) (g.W.Write.contents l.writer) l.number l.offset l.written;
  small : l.written ≤ 2 ^ 32 * l.number;
  bounded : l.offset ≤ 2 ^ 32 * l.number;
  reads : g.R.Feed.failed_reads l.reader ≡ g.R.Feed.failed_reads l.fn.reader;
  writes : g.W.Outlet.failed_writes l.writer ≡ g.W.Outlet.failed_writes l.fn.writer;
}
