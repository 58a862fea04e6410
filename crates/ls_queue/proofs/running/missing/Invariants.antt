use Rattle.ls_queue.specs.View.Running.{EachHasEnd}
use Rattle.ls_queue.proofs.running.missing.Given as goal

-- each source so far has an end
abbrev pub invariant-loop-source : goal.invariant-loop-source
invariant-loop-source g l = EachHasEnd l.source l.ended
