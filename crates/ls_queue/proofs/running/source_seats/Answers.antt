use Rattle.std.proofs.Common.{◌∙◌, ap, sym, subst, refl, [], arith}
use Rattle.ls_queue.specs.View.Account.{source_view}
use Rattle.ls_queue.specs.View.Running.{AreNewSources}
use Rattle.ls_queue.proofs.SeatLemmas.{source_forks, source_known, AreNewSources-more, length_more}
use Rattle.ls_queue.proofs.running.source_seats.Goals as goal

pub another-requires-clause-rule : goal.another-requires-clause-rule
another-requires-clause-rule g c = source_forks _ _ _ c.loop-source.invariant.known (let few = c.args.channel.now.few_sources in omega arith)

pub loop-source-preserved : goal.loop-source-preserved
loop-source-preserved g c =
    let before = c.loop-source.invariant in
    record {
      pass = c.another.ensures.channel.0;
      known = source_known c.loop-source.source _ _ before.known c.another.ensures.rule.0;
      seats = subst (AreNewSources c.args.channel.now 0) (sym c.in_ok-push.ensures.items)
          (AreNewSources-more c.args.channel.now 0 c.loop-source.source c.loop-source.seats.items _ before.seats (let m = before.many in omega arith) c.another.ensures.channel.2
          (c.another.ensures.rule.1 ∙ ap (λ u. source_view u.sources []) before.known) refl refl (omega arith));
      many = length_more _ c.loop-source.seats.items _ c.loop-source.source before.many c.in_ok-push.ensures.items;
    }
