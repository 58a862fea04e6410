use Rattle.std.proofs.Common.{◌+◌, ◌≤◌, length}
use Rattle.ls_queue.specs.View.Running.{IsWorkerSeat, jobs_taken, sources_of}
use Rattle.ls_recorder.specs.View.Boxes.{AnswersAll}
use Rattle.ls_recorder.proofs.working.work.Given as goal

-- no more jobs are counted as coded than were taken, and each was answered
abbrev pub invariant-loop : goal.invariant-loop
invariant-loop g l = record {
  next : (goal.iterator-loop g).can_next l.iterator';
  goes_on : (goal.iterator-loop g).is_finite l.iterator';
  seat : IsWorkerSeat l.queue l.seat;
  boxes : sources_of l.queue ≤ length l.outbox.senders.items;
  coded : length (jobs_taken l.fn.seat) + l.coded ≤ length (jobs_taken l.seat);
  answered : AnswersAll l.fn.seat l.seat l.fn.outbox l.outbox l.undelivered;
}
