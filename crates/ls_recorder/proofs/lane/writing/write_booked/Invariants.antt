use Rattle.crossbeam_channel.specs.Ends.{sends_on}
use Rattle.std.proofs.Common.{◌≡◌, ◌*◌, ◌^◌, ◌≤◌, length}
use Rattle.ls_queue.specs.View.Running.{jobs_taken}
use Rattle.ls_recorder.specs.View.Lanes.{IsWriting}
use Rattle.ls_recorder.specs.View.Halves.{orders_taken, HasTaken}
use Rattle.ls_recorder.proofs.lane.writing.write_booked.Given as goal

-- the orders so far were taken and booked, and the codestreams of those that the collector doesn't hold were written
abbrev pub invariant-loop : goal.invariant-loop
invariant-loop g l = record {
  taken : HasTaken l.setting.bookings.now l.setting.window l.seat l.arrivals.collector;
  writing : IsWriting (orders_taken l.seat) (g.W.Write.contents l.fn.writer) (g.W.Write.contents l.writer) l.arrivals.collector l.written;
  small : l.written ≤ 2 ^ 32 * l.arrivals.collector.first;
  returned : l.arrivals.returns.returned ≡ l.arrivals.collector.first;
  returns : sends_on l.arrivals.returns.sender ≡ sends_on l.fn.arrivals.returns.sender;
  writes : g.W.Outlet.failed_writes l.writer ≡ g.W.Outlet.failed_writes l.fn.writer;
  untouched : length (jobs_taken l.seat) ≡ 0 → l.writer ≡ l.fn.writer;
}
