use Rattle.std.proofs.Common.{arith}
use Rattle.ls_queue.specs.View.Running.{IsEndedAt}
use Rattle.ls_queue.proofs.SeatPlaces.{each_at, source_at}
use Rattle.ls_bench.proofs.queue.put_by_all.Goals as goal

pub map_vec-requires-after_bounds : goal.map_vec-requires-after_bounds
map_vec-requires-after_bounds g c κs within = source_at c.args.queue.now.channel 0 c.args.seats.items c.requires.seats.0

pub finish-requires-clause-ended : goal.finish-requires-clause-ended
finish-requires-clause-ended g c = each_at (IsEndedAt c.args.queue.now.channel) c.in-Ok.ended.items
    (λ i d below. let k = (c.in-Ok.ensures.each i d (let l = c.in-Ok.ensures.len in omega (arith, c.in-Ok.ended.ok, c.args.seats.ok))).1 in grind arith)
