use Rattle.std.proofs.Common.{rules, sym, subst, arith}
use Rattle.ls_queue.specs.View.Account.{IsCounted}
use Rattle.ls_queue.specs.View.Running.{EachHasEnd}
use Rattle.ls_queue.proofs.EndLemmas.{enough_ends, finished_known, finished_puts}
use Rattle.ls_queue.proofs.running.Queue.finish.Goals as goal

pub returns : goal.returns
returns g c =
    let each : EachHasEnd c.args.self.now.channel.sources c.args.ended.items = search rules in
    let enough = enough_ends c.args.self.now.channel.sources c.args.ended.items each in
    let puts = finished_puts _ _ _ _ _ _ c.join_ends-counts.ensures.known c.send_marks.ensures.sent in (
      each,
      record {
        pass = c.send_marks.ensures.pass;
        shares = _;
        known = finished_known _ _ _ _ _ _ c.join_ends-counts.ensures.known c.send_marks.ensures.sent;
        left = (let f = c.args.self.now.channel.few_sources in let f' = c.args.self.now.channel.few_workers in omega arith);
        counted = λ s below. subst (λ l. IsCounted c.join_ends-counts.result l s) (sym puts) (c.join_ends-counts.ensures.counts s (each s below));
      },
      puts,
    )
