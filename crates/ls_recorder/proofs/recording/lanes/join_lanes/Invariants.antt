use Rattle.std.proofs.Common.{◌≡◌, ◌+◌, List, ◌++◌, length, vec_capacity}
use Rattle.ls_frame.specs.declared.tuning.Tuning.{Tuning}
use Rattle.ls_recorder.specs.View.Recordings.{AreStarted, AreDone}
use Rattle.ls_recorder.proofs.recording.lanes.join_lanes.Given as goal

-- the lanes of the first films have ended, and those of the others remain
abbrev pub invariant-loop-lanes : goal.invariant-loop-lanes
invariant-loop-lanes g l = record {
  films : (films : List (g.row.R.Denot × g.row.W.Denot × Tuning)) → AreStarted g.R.Read.remaining g.R.Feed.failed_reads g.W.Write.contents g.W.Outlet.failed_writes l.queue 0 films l.fn.lanes.items
      → (done : List (g.row.R.Denot × g.row.W.Denot × Tuning)) × (left : List (g.row.R.Denot × g.row.W.Denot × Tuning)) × (done ++ left ≡ films)
      × AreDone g.R.Read.remaining g.R.Feed.failed_reads g.W.Write.contents g.W.Outlet.failed_writes l.queue 0 done l.ended.items l.tracks.items
      × AreStarted g.R.Read.remaining g.R.Feed.failed_reads g.W.Write.contents g.W.Outlet.failed_writes l.queue (length done) left l.lanes.items;
  sum : length l.ended.items + length l.lanes.items ≡ length l.fn.lanes.items;
  same : length l.tracks.items ≡ length l.ended.items;
  ended_capacity : vec_capacity l.ended ≡ vec_capacity l.fn.ended;
  tracks_capacity : vec_capacity l.tracks ≡ vec_capacity l.fn.tracks;
}

abbrev pub decreases-loop-lanes : goal.decreases-loop-lanes
decreases-loop-lanes g l = length l.lanes.items
