use Rattle.std.proofs.Common.{◌≡◌, length}
use Rattle.std.specs.List.{AllByRecursion}
use Rattle.ls_frame.specs.View.Chunks.{left_in, inner_reader}
use Rattle.ls_archive.specs.View.Places.{AreStanding, AreApart}
use Rattle.ls_archive.proofs.PlaceLemmas.{IsBefore, IsAt}
use Rattle.ls_archive.proofs.places.find_places.Given as goal

-- the codestreams that have a place stand there, each at its own, before the current one; and no read has failed
abbrev pub invariant-steps : goal.invariant-steps
invariant-steps g l = record {
  count : length l.places.items ≡ length l.wanted;
  at : IsAt (left_in g.R.Read.remaining l.fn.recording) (left_in g.R.Read.remaining l.recording) l.place;
  standing : AreStanding (left_in g.R.Read.remaining l.fn.recording) l.wanted l.places.items;
  before : AllByRecursion (IsBefore l.place) l.places.items;
  apart : AreApart l.places.items;
  reads : g.R.Feed.failed_reads (inner_reader l.recording) ≡ g.R.Feed.failed_reads (inner_reader l.fn.recording);
}
