use Rattle.std.proofs.Common.{◌≡◌}
use Rattle.crossbeam_channel.specs.Claims.{view, IsSeatAt}
use Rattle.crossbeam_channel.specs.Ends.{sends_on}
use Rattle.ls_queue.specs.View.Account.{with_marks}
use Rattle.ls_queue.proofs.running.send_marks.Given as goal

abbrev pub invariant-loop-mark : goal.invariant-loop-mark
invariant-loop-mark g l = record {
  pass : IsSeatAt (sends_on l.channel.sender) l.pass;
  sent : view l.pass ≡ with_marks (view l.fn.pass) l.mark;
}
