use Rattle.std.proofs.Common.{◌∙◌, ap, sym, subst, refl, false, [], arith}
use Rattle.ls_queue.specs.View.Account.{worker_view}
use Rattle.ls_queue.specs.View.Running.{AreNewWorkers}
use Rattle.ls_queue.proofs.SeatLemmas.{worker_forks, worker_known, AreNewWorkers-more, length_more}
use Rattle.ls_queue.proofs.running.worker_seats.Goals as goal

pub another-requires-clause-rule : goal.another-requires-clause-rule
another-requires-clause-rule g c =
    worker_forks _ _ _ _ c.loop-worker.invariant.known c.args.channel.now.few_sources (let few = c.args.channel.now.few_workers in omega arith)

pub loop-worker-preserved : goal.loop-worker-preserved
loop-worker-preserved g c =
    let before = c.loop-worker.invariant in
    record {
      pass = c.another.ensures.channel.0;
      known = worker_known c.args.channel.now.sources c.loop-worker.worker _ _ before.known c.another.ensures.rule.0;
      seats = subst (AreNewWorkers c.args.channel.now) (sym c.in_ok-push.ensures.items)
          (AreNewWorkers-more c.args.channel.now c.loop-worker.seats.items _ before.seats c.another.ensures.channel.2
          (c.another.ensures.rule.1 ∙ ap (λ u. worker_view u.sources [] false) before.known) refl);
      many = length_more _ c.loop-worker.seats.items _ c.loop-worker.worker before.many c.in_ok-push.ensures.items;
    }
