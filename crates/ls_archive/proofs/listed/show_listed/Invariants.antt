use Rattle.std.proofs.Common.{◌≡◌, ℕ, ◌+◌, ◌*◌, ◌^◌, ◌≤◌}
use Rattle.ls_archive.specs.View.Listed.{HasShown}
use Rattle.ls_archive.proofs.listed.show_listed.Given as goal

-- the frames so far were shown
abbrev pub invariant-loop-number : goal.invariant-loop-number
invariant-loop-number g l = record {
  n : ℕ;
  number_is : l.number ≡ l.fn.first + n;
  run : HasShown (g.I.Read.remaining l.fn.index) (g.I.Read.remaining l.index) (g.R.Read.remaining l.fn.recording) (g.R.Read.remaining l.recording)
      (g.W.Write.contents l.fn.writer) (g.W.Write.contents l.writer) l.fn.first l.fn.offset n l.offset l.written;
  small : l.written ≤ 2 ^ 32 * n;
  bounded : l.offset ≤ 2 ^ 32 * l.number;
  index_reads : g.I.Feed.failed_reads l.index ≡ g.I.Feed.failed_reads l.fn.index;
  reads : g.R.Feed.failed_reads l.recording ≡ g.R.Feed.failed_reads l.fn.recording;
  writes : g.W.Outlet.failed_writes l.writer ≡ g.W.Outlet.failed_writes l.fn.writer;
}
