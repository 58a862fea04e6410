use Rattle.std.proofs.Common.{◌≡◌, ◌+◌, length, vec_len, vec_capacity}
use Rattle.ls_queue.specs.View.Running.{AreWorkerSeats, sources_of}
use Rattle.ls_recorder.specs.View.Recordings.{AreWorking, LeadToAll}
use Rattle.ls_recorder.proofs.recording.workers.start_workers.Given as goal

-- the workers of the first seats are started; the seats of the others remain, each with an outbox
abbrev pub invariant-loop-rt : goal.invariant-loop-rt
invariant-loop-rt g l =
    AreWorkerSeats l.shared.queue.now l.seats.items
    × LeadToAll (sources_of l.shared.queue.now) l.outboxes.items
    × (length l.outboxes.items ≡ length l.seats.items)
    × AreWorking l.shared.queue.now l.working.items
    × (vec_len l.working + length l.seats.items ≡ vec_len l.fn.working + length l.fn.seats.items)
    × (vec_capacity l.working ≡ vec_capacity l.fn.working)

abbrev pub decreases-loop-rt : goal.decreases-loop-rt
decreases-loop-rt g l = length l.seats.items
