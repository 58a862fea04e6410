use Rattle.std.proofs.Common.{◌≡◌, length, true}
use Rattle.std.specs.List.{AllByRecursion}
use Rattle.crossbeam_channel.specs.Claims.{view, IsSeatAt}
use Rattle.crossbeam_channel.specs.Ends.{sends_on}
use Rattle.ls_queue.specs.View.Account.{with_takes}
use Rattle.ls_queue.specs.View.Running.{IsWorkerAt, takes_of}
use Rattle.ls_queue.proofs.running.join_seats.Given as goal

-- the passes so far are joined; with the remaining ones they are all
abbrev pub invariant-loop-seats : goal.invariant-loop-seats
invariant-loop-seats g l = record {
  pass : IsSeatAt (sends_on l.channel.sender) l.pass;
  closes : (view l.pass).closes ≡ true;
  left : AllByRecursion (IsWorkerAt l.channel) l.seats.items;
  known : with_takes (view l.pass) (takes_of l.seats.items) ≡ with_takes (view l.fn.pass) (takes_of l.fn.seats.items);
}

abbrev pub decreases-loop-seats : goal.decreases-loop-seats
decreases-loop-seats g l = length l.seats.items
