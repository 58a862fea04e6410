use Rattle.std.proofs.Common.{◌≡◌, ◌+◌, true, length, vec_capacity}
use Rattle.ls_queue.specs.View.Running.{AreWorkerSeats, all_done}
use Rattle.ls_recorder.specs.View.Recordings.{AreWorking}
use Rattle.ls_recorder.proofs.recording.workers.join_workers.Given as goal

abbrev pub invariant-loop-working : goal.invariant-loop-working
invariant-loop-working g l =
    AreWorking l.queue l.working.items
    × AreWorkerSeats l.queue l.seats.items
    × (all_done l.seats.items ≡ true)
    × (length l.seats.items + length l.working.items ≡ length l.fn.working.items)
    × (vec_capacity l.seats ≡ vec_capacity l.fn.seats)

abbrev pub decreases-loop-working : goal.decreases-loop-working
decreases-loop-working g l = length l.working.items
