use Rattle.std.proofs.Common.{◌≡◌, ◌-◌, length}
use Rattle.crossbeam_channel.specs.Claims.{view, IsSeatAt}
use Rattle.crossbeam_channel.specs.Ends.{sends_on}
use Rattle.ls_queue.specs.View.Account.{closer_view}
use Rattle.ls_queue.specs.View.Running.{AreNewSources}
use Rattle.ls_queue.proofs.running.source_seats.Given as goal

-- the seats of the sources so far, each with one of the closer's shares
abbrev pub invariant-loop-source : goal.invariant-loop-source
invariant-loop-source g l = record {
  pass : IsSeatAt (sends_on l.channel.sender) l.pass;
  known : view l.pass ≡ closer_view (64 - l.source) l.source 0;
  seats : AreNewSources l.channel 0 l.seats.items;
  many : length l.seats.items ≡ l.source;
}
