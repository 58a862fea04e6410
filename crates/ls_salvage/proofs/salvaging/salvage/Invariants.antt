use Rattle.std.proofs.Common.{◌≡◌, ◌-◌}
use Rattle.ls_frame.specs.View.Chunks.{left_in, inner_reader}
use Rattle.ls_salvage.specs.View.Ends.{most_place}
use Rattle.ls_salvage.specs.View.Runs.{HasRun, IsSmall}
use Rattle.ls_salvage.proofs.salvaging.salvage.Given as goal

-- the parts so far were read, and handed on
abbrev pub invariant-parts : goal.invariant-parts
invariant-parts g l = record {
  run : HasRun g.T.Text.text (g.W.Write.contents l.fn.writer) (g.W.Write.contents l.writer) (g.G.Gaps.told l.fn.gaps) (g.G.Gaps.told l.gaps) (left_in g.R.Read.remaining l.fn.reader) (left_in g.R.Read.remaining l.reader) l.progress;
  small : IsSmall l.progress;
  reads : g.R.Feed.failed_reads (inner_reader l.reader) ≡ g.R.Feed.failed_reads (inner_reader l.fn.reader);
  writes : g.W.Outlet.failed_writes l.writer ≡ g.W.Outlet.failed_writes l.fn.writer;
}

abbrev pub decreases-parts : goal.decreases-parts
decreases-parts g l = most_place - l.progress.place
