use Rattle.std.proofs.Common.{◌≡◌, drop}
use Rattle.ls_queue.specs.View.Running.{all_done}
use Rattle.ls_queue.proofs.running.all_done.Given as goal

-- the seats so far are done
abbrev pub invariant-loop-seat : goal.invariant-loop-seat
invariant-loop-seat g l = all_done l.seats ≡ all_done (drop l.seat-index l.seats)
