use Rattle.ls_frame.proofs.SampleLemmas.{compared_on, compared_all}
use Rattle.ls_frame.proofs.samples.are_same.Goals as goal

pub loop-place-preserved : goal.loop-place-preserved
loop-place-preserved c = compared_on _ c.loop-place.same c.args.one.now c.args.other.now c.loop-place.place c.if-one-other.false c.loop-place-test.true c.loop-place.invariant

pub returns : goal.returns
returns c = compared_all _ c.loop-place.same c.args.one.now c.args.other.now c.loop-place.place c.if-one-other.false c.loop-place-test.false c.loop-place.invariant
