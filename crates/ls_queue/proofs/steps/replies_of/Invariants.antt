use Rattle.std.proofs.Common.{◌≡◌, ◌++◌, length, drop}
use Rattle.ls_queue.specs.Steps.{replies_of}
use Rattle.ls_queue.proofs.steps.replies_of.Given as goal

-- the replies so far, followed by those to the remaining steps, are all the replies
abbrev pub invariant-loop-step : goal.invariant-loop-step
invariant-loop-step l = record {
  replies : replies_of l.fn.queue l.steps ≡ l.replies.items ++ replies_of l.queue (drop l.step-index l.steps);
  sources : length l.queue.counts ≡ length l.fn.queue.counts;
}
