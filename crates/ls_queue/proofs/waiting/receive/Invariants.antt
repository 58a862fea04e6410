use Rattle.std.proofs.Common.{◌≡◌}
use Rattle.crossbeam_channel.specs.Claims.{view, IsSeatAt}
use Rattle.crossbeam_channel.specs.Ends.{receives_on}
use Rattle.ls_queue.proofs.waiting.receive.Given as goal

-- nothing is received yet
abbrev pub invariant-loop-look : goal.invariant-loop-look
invariant-loop-look g l = record {
  pass : IsSeatAt (receives_on l.receiver) l.pass;
  receiver : l.receiver ≡ l.fn.receiver;
  id : l.pass.id ≡ l.fn.pass.id;
  known : view l.pass ≡ view l.fn.pass;
}
