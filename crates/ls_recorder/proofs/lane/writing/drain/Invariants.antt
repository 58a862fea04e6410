use Rattle.std.proofs.Common.{◌≡◌, ◌+◌, ◌<◌, ◌++◌, List, true, false, length}
use Rattle.ls_queue.specs.View.Running.{IsWorkerSeat}
use Rattle.ls_pieces.specs.Orders.{Ordered}
use Rattle.ls_recorder.specs.View.Halves.{orders_taken}
use Rattle.ls_recorder.proofs.lane.writing.drain.Given as goal

-- the orders taken so far
abbrev pub invariant-loop : goal.invariant-loop
invariant-loop g l = record {
  seat : IsWorkerSeat l.bookings l.seat;
  more : List Ordered;
  taken : orders_taken l.seat ≡ orders_taken l.fn.seat ++ more;
  few : l.beyond ≡ false → length more + l.left ≡ l.most;
  far : l.beyond ≡ true → l.most < length more;
}
