use Rattle.std.proofs.Common.{rules, ◌≡◌, ◌+◌, ◌∙◌, subst, ◌∷◌, length, arith}
use Rattle.std.specs.List.{AllByRecursion}
use Rattle.crossbeam_channel.specs.Claims.{view}
use Rattle.ls_queue.specs.View.Running.{IsWorkerAt}
use Rattle.ls_queue.proofs.EndLemmas.{took_first, none_left}
use Rattle.ls_queue.proofs.SettleLemmas.{seat_joins, seat_closes, seat_known, seats_known}
use Rattle.ls_queue.proofs.running.join_seats.Goals as goal

pub absorb-requires-clause-rule : goal.absorb-requires-clause-rule
absorb-requires-clause-rule g c =
    let size : length c.remove-theirs.new.self.items + 1 ≡ length c.loop-seats.seats.items = omega (arith, c.remove-theirs.ensures.len, c.remove-theirs.new.self.ok, c.loop-seats.seats.ok) in
    let first = took_first c.loop-seats.seats.items c.remove-theirs.new.self.items c.remove-theirs.result c.remove-theirs.ensures.value c.remove-theirs.ensures.items size in
    let left = subst (AllByRecursion (IsWorkerAt c.args.channel.now)) first c.loop-seats.invariant.left in
    seat_joins _ _ _ _ _ _ _ c.loop-seats.invariant.closes left.0.known

pub loop-seats-preserved : goal.loop-seats-preserved
loop-seats-preserved g c =
    let before = c.loop-seats.invariant in
    let seat = c.remove-theirs.result in
    let rest = c.remove-theirs.new.self.items in
    let size : length rest + 1 ≡ length c.loop-seats.seats.items = omega (arith, c.remove-theirs.ensures.len, c.remove-theirs.new.self.ok, c.loop-seats.seats.ok) in
    let first : c.loop-seats.seats.items ≡ seat ∷ rest = took_first c.loop-seats.seats.items rest seat c.remove-theirs.ensures.value c.remove-theirs.ensures.items size in
    let left : AllByRecursion (IsWorkerAt c.args.channel.now) (seat ∷ rest) = subst (AllByRecursion (IsWorkerAt c.args.channel.now)) first before.left in
    record {
      pass = c.absorb.ensures.channel.0;
      closes = seat_closes (view c.loop-seats.pass) (view seat.pass) (view c.absorb.new.pass) before.closes c.absorb.ensures.rule;
      left = left.1;
      known = seat_known (view c.loop-seats.pass) (view seat.pass) (view c.absorb.new.pass) _ seat rest c.loop-seats.seats.items left.0.known c.absorb.ensures.rule first ∙ before.known;
    }

pub returns-clause-known : goal.returns-clause-known
returns-clause-known g c =
    let none : length c.loop-seats.seats.items ≡ 0 = search rules in
    seats_known _ _ c.loop-seats.seats.items c.args.seats.items (none_left _ none) c.loop-seats.invariant.known
