use Rattle.ls_recorder.specs.View.Halves.{HasTaken, TakesMore, Books}
use Rattle.ls_recorder.proofs.lane.writing.book_until.Given as goal

-- the orders so far were booked
abbrev pub invariant-loop : goal.invariant-loop
invariant-loop g l = record {
  taken : HasTaken l.setting.bookings.now l.setting.window l.seat l.collector;
  books : Books l.fn.seat l.fn.collector l.seat l.collector;
  more : TakesMore l.fn.seat l.seat;
}
