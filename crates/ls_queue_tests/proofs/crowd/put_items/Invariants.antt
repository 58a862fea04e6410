use Rattle.ls_queue.specs.View.Running.{IsSourceAt}
use Rattle.ls_queue_tests.proofs.crowd.put_items.Given as goal

abbrev pub invariant-loop-number : goal.invariant-loop-number
invariant-loop-number g l = IsSourceAt l.queue.channel l.seat
