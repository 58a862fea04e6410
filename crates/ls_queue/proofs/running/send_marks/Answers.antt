use Rattle.std.proofs.Common.{ap}
use Rattle.crossbeam_channel.specs.Claims.{view}
use Rattle.ls_queue.specs.View.Account.{with_marks}
use Rattle.ls_queue.proofs.running.send_marks.Goals as goal

pub loop-mark-init : goal.loop-mark-init
loop-mark-init g c = record {
  pass = c.requires.pass;
  sent = ap (with_marks (view c.args.pass.now)) c.requires.none;
}
