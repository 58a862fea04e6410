use Rattle.std.proofs.Common.{arith}
use Rattle.ls_queue.specs.View.Running.{IsEndedAt}
use Rattle.ls_queue.proofs.SeatPlaces.{each_at}
use Rattle.ls_queue_tests.proofs.PlaceLemmas.{at_place}
use Rattle.ls_queue_tests.proofs.crowd.put_by_each.Goals as goal

pub map_vec-requires-after_bounds : goal.map_vec-requires-after_bounds
map_vec-requires-after_bounds g c κs within = at_place _ c.args.numbered.items c.requires.numbered

pub finish-requires-clause-ended : goal.finish-requires-clause-ended
finish-requires-clause-ended g c = each_at (IsEndedAt c.args.queue.now.channel) c.in-Ok.ended.items
    (λ i d below. let k = (c.in-Ok.ensures.each i d (let l = c.in-Ok.ensures.len in omega (arith, c.in-Ok.ended.ok, c.args.numbered.ok))).1 in grind arith)
