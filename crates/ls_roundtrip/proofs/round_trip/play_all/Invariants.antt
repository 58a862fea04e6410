use Rattle.std.proofs.Common.{◌≡◌, ◌+◌, ◌≤◌, length, vec_capacity}
use Rattle.ls_roundtrip.specs.View.RoundTrips.{IsPlayed}
use Rattle.ls_recorder.proofs.ListLemmas.{ZippedSoFar}
use Rattle.ls_roundtrip.proofs.round_trip.play_all.Given as goal

-- the first tracks are played back, and the others remain
abbrev pub invariant-tracks : goal.invariant-tracks
invariant-tracks g l = record {
  tracks : ZippedSoFar IsPlayed l.fn.tracks.items l.tracks.items l.played_back.items;
  sum : length l.played_back.items + length l.tracks.items ≡ length l.fn.tracks.items;
  room : length l.fn.tracks.items ≤ vec_capacity l.played_back;
}

abbrev pub decreases-tracks : goal.decreases-tracks
decreases-tracks g l = length l.tracks.items
