use Rattle.crossbeam_channel.specs.Ends.{sends_on}
use Rattle.std.proofs.Common.{◌≡◌, ◌*◌, ◌^◌, ◌≤◌, length}
use Rattle.ls_pieces.specs.Collecting.{booked}
use Rattle.ls_recorder.specs.View.Lanes.{GoesOn}
use Rattle.ls_recorder.proofs.lane.writing.write_ready.Given as goal

-- the coded frames so far were written
abbrev pub invariant-loop-piece : goal.invariant-loop-piece
invariant-loop-piece g l = record {
  goes_on : GoesOn (g.W.Write.contents l.fn.writer) l.fn.arrivals.collector l.fn.written (g.W.Write.contents l.writer) l.arrivals.collector l.written;
  small : l.written ≤ 2 ^ 32 * l.arrivals.collector.first;
  returned : l.arrivals.returns.returned ≡ l.arrivals.collector.first;
  booked : booked l.arrivals.collector ≡ booked l.fn.arrivals.collector;
  window : l.arrivals.collector.window ≡ l.fn.arrivals.collector.window;
  returns : sends_on l.arrivals.returns.sender ≡ sends_on l.fn.arrivals.returns.sender;
  writes : g.W.Outlet.failed_writes l.writer ≡ g.W.Outlet.failed_writes l.fn.writer;
}

abbrev pub decreases-loop-piece : goal.decreases-loop-piece
decreases-loop-piece g l = length l.arrivals.collector.slots
