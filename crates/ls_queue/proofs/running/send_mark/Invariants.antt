use Rattle.std.proofs.Common.{◌≡◌}
use Rattle.crossbeam_channel.specs.Claims.{view, IsSeatAt}
use Rattle.crossbeam_channel.specs.Ends.{sends_on}
use Rattle.ls_queue.proofs.running.send_mark.Given as goal

-- nothing is sent yet
abbrev pub invariant-loop : goal.invariant-loop
invariant-loop g l = record {
  pass : IsSeatAt (sends_on l.channel.sender) l.pass;
  known : view l.pass ≡ view l.fn.pass;
}
