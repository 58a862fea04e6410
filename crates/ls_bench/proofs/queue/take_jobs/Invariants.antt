use Rattle.ls_queue.specs.View.Running.{IsWorkerAt}
use Rattle.ls_bench.proofs.queue.take_jobs.Given as goal

abbrev pub invariant-loop : goal.invariant-loop
invariant-loop g l = IsWorkerAt l.queue.channel l.seat
