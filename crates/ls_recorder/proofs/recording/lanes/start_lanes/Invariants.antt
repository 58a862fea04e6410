use Rattle.std.proofs.Common.{◌≡◌, ◌+◌, List, ◌++◌, length, vec_capacity}
use Rattle.ls_frame.specs.declared.tuning.Tuning.{Tuning}
use Rattle.ls_queue.specs.View.Running.{AreNewSources}
use Rattle.ls_recorder.specs.View.Recordings.{AreStarted}
use Rattle.ls_recorder.specs.View.Boxes.{AreFrom}
use Rattle.ls_recorder.proofs.recording.lanes.start_lanes.Given as goal

-- the first films have their lanes; the films, seats and inboxes that remain are in order from the next source on
abbrev pub invariant-loop-films : goal.invariant-loop-films
invariant-loop-films g l = record {
  done : List (g.row.R.Denot × g.row.W.Denot × Tuning);
  whole : done ++ l.films.items ≡ l.fn.films.items;
  count : length done ≡ l.source;
  started : AreStarted g.R.Read.remaining g.R.Feed.failed_reads g.W.Write.contents g.W.Outlet.failed_writes l.shared.queue.now 0 done l.lanes.items;
  lanes : length l.lanes.items ≡ l.source;
  seats : AreNewSources l.shared.queue.now.channel l.source l.seats.items;
  inboxes : AreFrom l.source l.inboxes.items;
  many_seats : length l.seats.items ≡ length l.films.items;
  many_inboxes : length l.inboxes.items ≡ length l.films.items;
  sum : l.source + length l.films.items ≡ length l.fn.films.items;
  capacity : vec_capacity l.lanes ≡ vec_capacity l.fn.lanes;
}

abbrev pub decreases-loop-films : goal.decreases-loop-films
decreases-loop-films g l = length l.films.items
