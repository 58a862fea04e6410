use Rattle.std.proofs.Common.{◌≡◌, ◌*◌, ◌^◌, ◌≤◌, ℕ, List, Option}
use Rattle.ls_frame.specs.View.Devices.{count_after}
use Rattle.ls_film.specs.View.Sources.{StandsAfter}
use Rattle.ls_film.proofs.engine.write_at_most.Given as goal

-- the frames so far were given, and their chunks written
abbrev pub invariant-loop-number : goal.invariant-loop-number
invariant-loop-number g l = record {
  run : (place : Option (List ℕ)) → g.I.Images.stands l.fn.source place (g.R.Read.remaining l.fn.reader)
      → StandsAfter g.I.Images.image g.X.Text.text g.I.Images.stands l.source place (g.R.Read.remaining l.reader) (g.W.Write.contents l.fn.writer) (g.W.Write.contents l.writer) l.number l.written;
  small : l.written ≤ 2 ^ 32 * l.number;
  reads : (failed : ℕ) → g.R.Feed.failed_reads l.fn.reader ≡ count_after (g.I.Images.owes l.fn.source) failed
      → g.R.Feed.failed_reads l.reader ≡ count_after (g.I.Images.owes l.source) failed;
  writes : g.W.Outlet.failed_writes l.writer ≡ g.W.Outlet.failed_writes l.fn.writer;
}
