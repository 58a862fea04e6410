use Rattle.std.proofs.Common.{◌≡◌}
use Rattle.ls_film.specs.View.Parts.{GavePassed}
use Rattle.ls_film.proofs.part.pass_streams.Given as goal

-- the codestreams so far were passed over
abbrev pub invariant-loop-number : goal.invariant-loop-number
invariant-loop-number g l = record {
  passed : GavePassed (g.R.Read.remaining l.fn.reader) (g.R.Read.remaining l.reader) l.number;
  reads : g.R.Feed.failed_reads l.reader ≡ g.R.Feed.failed_reads l.fn.reader;
}
