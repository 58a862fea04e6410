use Rattle.std.proofs.Common.{rules, ◌≡◌, ◌≤◌, refl, true, length, arith}
use Rattle.ls_queue.specs.View.Running.{all_done}
use Rattle.ls_queue.proofs.SettleLemmas.{last_learns, last_settled}
use Rattle.ls_queue.proofs.running.settle.Goals as goal

pub learn_as-requires-clause-rule : goal.learn_as-requires-clause-rule
learn_as-requires-clause-rule g c =
    let enough : c.args.queue.channel.workers ≤ length c.args.seats.items = search rules in
    let done : all_done c.args.seats.items ≡ true = search rules in
    last_learns _ _ _ _ _ _ _ c.args.seats.items c.requires.finished.known
    c.join_seats.ensures.known c.requires.finished.left c.args.queue.channel.some_worker enough done

pub returns : goal.returns
returns g c =
    let enough : c.args.queue.channel.workers ≤ length c.args.seats.items = search rules in
    let done : all_done c.args.seats.items ≡ true = search rules in
    let settled = last_settled _ _ _ _ _ _ c.args.seats.items _ c.requires.finished.known
    c.join_seats.ensures.known c.learn_as.ensures.rule.1 in (
      enough,
      done,
      refl,
      record {
        order = settled.order;
        each = settled.each;
        no_others = settled.no_others;
        taken = settled.taken;
        within = settled.within;
        counted = c.requires.finished.counted;
      },
    )

pub returns-then-len-queue : goal.returns-then-len-queue
returns-then-len-queue g c =
    (omega (arith, c.if-len-queue.true, c.len.ensures, c.args.seats.ok), refl, refl, refl)
