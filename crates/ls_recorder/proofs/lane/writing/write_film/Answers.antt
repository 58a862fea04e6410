use Rattle.std.proofs.Common.{sym, ap, subst, ◌∙◌, arith}
use Rattle.ls_frame.specs.View.Devices.{count_after}
use Rattle.ls_recorder.specs.View.Lanes.{WroteFirst}
use Rattle.ls_recorder.specs.View.Halves.{orders_taken, TakesMore}
use Rattle.ls_recorder.proofs.WritingLemmas.{takes-longer, more-first}
use Rattle.ls_recorder.proofs.lane.writing.write_film.Goals as goal

pub returns : goal.returns
returns g c =
    let rest = c.take_the_rest-fault.ensures in
    let more : TakesMore c.write_booked-written.new.seat c.take_the_rest-fault.new.seat = record { more = rest.fault.0; taken = rest.fault.1 } in
    record {
      seat = rest.seat;
      done = rest.done;
      wrote = rest.stops _ _ c.in-Err.ensures.halts;
      writes = c.in-Err.ensures.failures ∙ ap (λ b. count_after b (g.W.Outlet.failed_writes c.args.start.writer)) (sym rest.device);
      untouched = λ none. c.in-Err.ensures.untouched (omega (arith, takes-longer _ _ more, none));
      returned = more-first _ _ _ _ _ more (subst (λ k. WroteFirst (orders_taken c.write_booked-written.new.seat) (g.W.Write.contents c.args.start.writer) (g.W.Write.contents c.write_booked-written.new.writer) k) (sym c.stop.ensures.returned) c.in-Err.ensures.returned);
      returns = c.stop.ensures.same ∙ c.in-Err.ensures.returns;
    }
