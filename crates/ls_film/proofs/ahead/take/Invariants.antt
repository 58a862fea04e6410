use Rattle.std.proofs.Common.{◌≡◌, length}
use Rattle.ls_film.specs.View.Ahead.{AreTaken, codestreams_of}
use Rattle.ls_film.proofs.ahead.take.Given as goal

-- the codestreams so far were taken
abbrev pub invariant-loop-place : goal.invariant-loop-place
invariant-loop-place g l = record {
  taken : AreTaken (g.R.Read.remaining l.fn.reader) (g.R.Read.remaining l.reader) (codestreams_of l.jobs.items);
  len : length l.jobs.items ≡ l._place;
  reads : g.R.Feed.failed_reads l.reader ≡ g.R.Feed.failed_reads l.fn.reader;
}
