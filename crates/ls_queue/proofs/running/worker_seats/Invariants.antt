use Rattle.std.proofs.Common.{◌≡◌, ◌-◌, length}
use Rattle.crossbeam_channel.specs.Claims.{view, IsSeatAt}
use Rattle.crossbeam_channel.specs.Ends.{sends_on}
use Rattle.ls_queue.specs.View.Account.{closer_view}
use Rattle.ls_queue.specs.View.Running.{AreNewWorkers}
use Rattle.ls_queue.proofs.running.worker_seats.Given as goal

-- the seats of the workers so far, each with one of the closer's shares
abbrev pub invariant-loop-worker : goal.invariant-loop-worker
invariant-loop-worker g l = record {
  pass : IsSeatAt (sends_on l.channel.sender) l.pass;
  known : view l.pass ≡ closer_view (64 - l.channel.sources - l.worker) l.channel.sources l.worker;
  seats : AreNewWorkers l.channel l.seats.items;
  many : length l.seats.items ≡ l.worker;
}
