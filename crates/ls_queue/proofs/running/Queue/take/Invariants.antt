use Rattle.std.proofs.Common.{◌≡◌, false}
use Rattle.crossbeam_channel.specs.Claims.{view, IsSeatAt}
use Rattle.crossbeam_channel.specs.Ends.{sends_on}
use Rattle.ls_queue.proofs.running.Queue.take.Given as goal

-- nothing is received yet, and the seat is as it was
abbrev pub invariant-loop : goal.invariant-loop
invariant-loop g l = record {
  pass : IsSeatAt (sends_on l.self.channel.sender) l.seat.pass;
  known : view l.seat.pass ≡ view l.fn.seat.pass;
  done : l.seat.done ≡ false;
  before : l.fn.seat.done ≡ false;
}
