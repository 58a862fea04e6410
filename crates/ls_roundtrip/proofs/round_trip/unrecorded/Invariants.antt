use Rattle.std.proofs.Common.{◌≡◌, ◌+◌, ◌≤◌, length, vec_capacity}
use Rattle.ls_roundtrip.specs.View.RoundTrips.{IsUnrecorded}
use Rattle.ls_recorder.proofs.ListLemmas.{ZippedSoFar}
use Rattle.ls_roundtrip.proofs.round_trip.unrecorded.Given as goal

-- the first films are prepared, and the others remain
abbrev pub invariant-loop-alloc : goal.invariant-loop-alloc
invariant-loop-alloc l = record {
  films : ZippedSoFar IsUnrecorded l.fn.films.items l.films.items l.made.items;
  sum : length l.made.items + length l.films.items ≡ length l.fn.films.items;
  room : length l.fn.films.items ≤ vec_capacity l.made;
}

abbrev pub decreases-loop-alloc : goal.decreases-loop-alloc
decreases-loop-alloc l = length l.films.items
