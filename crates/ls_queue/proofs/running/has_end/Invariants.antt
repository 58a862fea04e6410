use Rattle.std.proofs.Common.{◌≡◌, drop}
use Rattle.ls_queue.specs.View.Running.{has_end}
use Rattle.ls_queue.proofs.running.has_end.Given as goal

-- the end isn't among those so far
abbrev pub invariant-loop-end : goal.invariant-loop-end
invariant-loop-end g l = has_end l.source l.ended ≡ has_end l.source (drop l.end-index l.ended)
