use Rattle.crossbeam_channel.specs.Ends.{receives_on}
use Rattle.std.proofs.Common.{◌≡◌, ◌-◌, ◌^◌, ◌≤◌, length}
use Rattle.ls_queue.specs.View.Running.{IsSourceSeat, items_put}
use Rattle.ls_recorder.specs.View.Halves.{HasRead}
use Rattle.ls_recorder.proofs.lane.reading.read_film.Given as goal

-- the frames so far were read, booked and put
abbrev pub invariant-loop-number : goal.invariant-loop-number
invariant-loop-number g l = record {
  seat : IsSourceSeat l.setting.queue.now l.seat;
  source : l.seat.source ≡ l.fn.seat.source;
  booking : IsSourceSeat l.setting.bookings.now l.booked;
  booking_source : l.booked.source ≡ l.fn.booked.source;
  same : items_put l.booked ≡ items_put l.seat;
  few : l.number ≤ 2 ^ 32 - 1;
  many : length (items_put l.seat) ≡ l.number;
  read : HasRead l.setting.tuning (items_put l.seat) (g.F.Read.remaining l.fn.reader) (g.F.Read.remaining l.reader) l.number;
  taken : length (items_put l.seat) ≤ l.places.taken;
  places : (l.places.window ≡ l.fn.places.window) × (receives_on l.places.receiver ≡ receives_on l.fn.places.receiver);
  reads : g.F.Feed.failed_reads l.reader ≡ g.F.Feed.failed_reads l.fn.reader;
}
