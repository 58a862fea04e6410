use Rattle.std.proofs.Common.{arith}
use Rattle.ls_queue.specs.View.Running.{IsWorkerAt}
use Rattle.ls_queue.proofs.SeatPlaces.{each_at, worker_at}
use Rattle.ls_queue_tests.proofs.crowd.take_by_all.Goals as goal

pub map_vec-requires-after_bounds : goal.map_vec-requires-after_bounds
map_vec-requires-after_bounds g c κs within = worker_at c.args.queue.now.channel c.args.seats.items c.requires.0

pub returns : goal.returns
returns g c = each_at (IsWorkerAt c.args.queue.now.channel) c.in_ok-back.back.items
    (λ i d below. let k = (c.in_ok-back.ensures.each i d (let l = c.in_ok-back.ensures.len in omega (arith, c.in_ok-back.back.ok, c.args.seats.ok))).1 in grind arith)
