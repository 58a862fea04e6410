use Rattle.std.proofs.Common.{rules, ◌≡◌, ◌<◌, ◌+◌, ◌∙◌, subst, refl, ◌∷◌, length, arith}
use Rattle.std.specs.List.{AllByRecursion}
use Rattle.crossbeam_channel.specs.Claims.{view}
use Rattle.ls_queue.specs.View.Running.{IsEndedAt, items_ended}
use Rattle.ls_queue.proofs.AccountLists.{set_length}
use Rattle.ls_queue.proofs.EndLemmas.{took_first, none_left, end_joins, end_known, end_puts, counted_next, parts_next, ends_known}
use Rattle.ls_queue.proofs.running.join_ends.Goals as goal

pub absorb-requires-clause-rule : goal.absorb-requires-clause-rule
absorb-requires-clause-rule g c =
    let size : length c.remove-source.new.self.items + 1 ≡ length c.loop-ended.ended.items = omega (arith, c.remove-source.ensures.len, c.remove-source.new.self.ok, c.loop-ended.ended.ok) in
    let first = took_first c.loop-ended.ended.items c.remove-source.new.self.items c.remove-source.result c.remove-source.ensures.value c.remove-source.ensures.items size in
    let left = subst (AllByRecursion (IsEndedAt c.args.channel.now)) first c.loop-ended.invariant.left in
    end_joins _ _ _ _ _ _ _ _ _ c.loop-ended.invariant.known left.0.known

pub loop-ended-preserved : goal.loop-ended-preserved
loop-ended-preserved g c =
    let before = c.loop-ended.invariant in
    let end = c.remove-source.result in
    let rest = c.remove-source.new.self.items in
    let size : length rest + 1 ≡ length c.loop-ended.ended.items = omega (arith, c.remove-source.ensures.len, c.remove-source.new.self.ok, c.loop-ended.ended.ok) in
    let first : c.loop-ended.ended.items ≡ end ∷ rest = took_first c.loop-ended.ended.items rest end c.remove-source.ensures.value c.remove-source.ensures.items size in
    let left : AllByRecursion (IsEndedAt c.args.channel.now) (end ∷ rest) = subst (AllByRecursion (IsEndedAt c.args.channel.now)) first before.left in
    let puts = end_puts (view c.loop-ended.pass) (view end.pass) (view c.absorb.new.pass) end.source (items_ended end) left.0.known c.absorb.ensures.rule in
    let small : end.source < 16 = (let b = left.0.source in let f = c.args.channel.now.few_sources in omega arith) in
    record {
      pass = c.absorb.ensures.channel.0;
      left = left.1;
      known = end_known _ _ _ _ _ _ _ _ _ before.known left.0.known c.absorb.ensures.rule (let f = before.fewer in omega arith);
      fewer = (let f = before.fewer in omega arith);
      parts = parts_next _ _ c.loop-ended.ended.items rest c.args.ended.items end _ refl first puts before.parts;
      size = set_length c.loop-ended.counts _ _ ∙ before.size;
      counted = λ s h. counted_next c.loop-ended.counts _ c.loop-ended.ended.items end rest (items_ended end) _ first before.size small left.0.count puts s (before.counted s h);
    }

pub returns-clause-known : goal.returns-clause-known
returns-clause-known g c =
    let none : length c.loop-ended.ended.items ≡ 0 = search rules in
    ends_known _ _ _ _ _ c.loop-ended.ended.items c.args.ended.items (none_left _ none) c.loop-ended.invariant.known c.loop-ended.invariant.parts
