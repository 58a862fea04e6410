use Rattle.ls_queue.specs.View.Running.{IsSourceAt}
use Rattle.ls_bench.proofs.queue.put_items.Given as goal

abbrev pub invariant-loop-item : goal.invariant-loop-item
invariant-loop-item g l = IsSourceAt l.queue.channel l.seat
