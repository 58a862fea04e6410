use Rattle.std.proofs.Common.{◌+◌, length, ap, ◌∙◌, arith, rules}
use Rattle.std.proofs.lemmas.List.{length_push}
use Rattle.ls_queue.specs.View.Running.{items_put}
use Rattle.ls_recorder.proofs.ReadingLemmas.{HasRead-more}
use Rattle.ls_recorder.proofs.lane.reading.read_film.Goals as goal

pub loop-number-preserved : goal.loop-number-preserved
loop-number-preserved g c =
    let inv = c.loop-number.invariant in
    let order = rw c.in-Some.is at c.in_ok-order.ensures.order in
    let put = c.in_ok-put.ensures.put in
    record {
      seat = c.put.ensures.seat.0;
      source = c.put.ensures.seat.1 ∙ inv.source;
      booking = c.put.ensures.booked.0;
      booking_source = c.put.ensures.booked.1 ∙ inv.booking_source;
      same = c.put.ensures.same;
      few = omega (arith, order.0);
      many = ap length put ∙ length_push (items_put c.loop-number.seat) c.in-Some.order ∙ ap (λ k. k + 1) inv.many;
      read = HasRead-more c.args.setting.now.tuning _ _ _ _ _ _ c.in-Some.order inv.read order.1 order.2 order.3 order.4 put;
      taken = omega (arith, ap length put, length_push (items_put c.loop-number.seat) c.in-Some.order, inv.taken, c.take.ensures.took (search rules));
      places = (c.take.ensures.same.0 ∙ inv.places.0, c.take.ensures.same.1 ∙ inv.places.1);
      reads = c.in_ok-order.ensures.failures ∙ inv.reads;
    }
