use Rattle.std.proofs.Common.{◌≡◌}
use Rattle.crossbeam_channel.specs.Claims.{view, IsSeatAt}
use Rattle.crossbeam_channel.specs.Ends.{sends_on}
use Rattle.ls_queue.specs.declared.views.Message.TheVariants as message
use Rattle.ls_queue.specs.View.Account.{job}
use Rattle.ls_queue.proofs.running.Queue.put.Given as goal

-- the job isn't sent yet, and the seat is as it was
abbrev pub invariant-loop : goal.invariant-loop
invariant-loop g l = record {
  pass : IsSeatAt (sends_on l.self.channel.sender) l.seat.pass;
  known : view l.seat.pass ≡ view l.fn.seat.pass;
  source : l.seat.source ≡ l.fn.seat.source;
  message : l.message ≡ message.Job (job l.fn.seat.source l.fn.seat.count l.fn.item);
}
