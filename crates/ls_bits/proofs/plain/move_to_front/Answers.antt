use Rattle.std.proofs.Common.{◌≡◌, subst, arith}
use Rattle.ls_bits.proofs.PlainLemmas.{AreMoved, all_moved, moved_on}
use Rattle.ls_bits.proofs.plain.move_to_front.Goals as goal

pub loop-place-preserved : goal.loop-place-preserved
loop-place-preserved c = moved_on c.args.from c.loop-place.place c.args.bytes.now c.loop-place.bytes c.loop-place.auto.place (omega arith) c.loop-place.invariant

pub returns-clause-moved : goal.returns-clause-moved
returns-clause-moved c =
    let last : c.loop-place.place ≡ c.args.end = omega (arith, c.loop-place-test.false, c.requires.order, c.loop-place.auto.place-end) in
    all_moved c.args.from c.args.end c.args.bytes.now c.loop-place.bytes c.requires.order c.requires.within
    (subst (λ n. AreMoved c.args.from n c.args.bytes.now c.loop-place.bytes) last c.loop-place.invariant)
