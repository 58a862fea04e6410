use Rattle.std.proofs.Common.{sym, subst, arith}
use Rattle.std.specs.List.{AllByRecursion}
use Rattle.ls_queue.specs.View.Running.{AreNewSources}
use Rattle.ls_queue.proofs.AccountLists.{all_append}
use Rattle.ls_queue_tests.proofs.crowd.with_sources.Goals as goal

pub loop-source-preserved : goal.loop-source-preserved
loop-source-preserved c =
    let before = c.loop-source.invariant in (
      subst (AllByRecursion _) (sym c.in_ok-push.ensures.items) (all_append _ c.loop-source.numbered.items _ before.0 ((c.next_source-seat.ensures.seat.0, c.next_source-seat.ensures.seat.1), tt)),
      subst (λ n. AreNewSources c.args.queue.now.channel n c.next_source-seat.new.seats.items) (omega arith) c.next_source-seat.ensures.rest,
    )
