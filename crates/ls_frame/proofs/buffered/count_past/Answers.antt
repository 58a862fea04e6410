use Rattle.std.proofs.Common.{rules, ◌+◌, arith}
use Rattle.ls_frame.proofs.MarkLemmas.{passed-plain, passed-one, passed-front, passed-all}
use Rattle.ls_frame.proofs.buffered.count_past.Goals as goal

pub returns-then-count-bytes-clause-passed : goal.returns-then-count-bytes-clause-passed
returns-then-count-bytes-clause-passed c =
    let passed = passed-plain c.args.mark c.args.limit c.args.bytes.now c.loop-place.count c.in-Some.place c.loop-place.invariant.1 c.in-Some.ensures.0.before in
    passed-front c.args.mark c.args.limit c.args.bytes.now (c.loop-place.count + c.in-Some.place) (c.loop-place.count + (c.in-Some.place + 1)) passed (omega arith)

pub returns-then-bytes-count-clause-passed : goal.returns-then-bytes-count-clause-passed
returns-then-bytes-count-clause-passed c =
    let passed = passed-plain c.args.mark c.args.limit c.args.bytes.now c.loop-place.count c.in-Some.place c.loop-place.invariant.1 c.in-Some.ensures.0.before in
    passed-front c.args.mark c.args.limit c.args.bytes.now (c.loop-place.count + c.in-Some.place) (c.loop-place.count + (c.in-Some.place + 1)) passed (omega arith)

pub loop-place-preserved : goal.loop-place-preserved
loop-place-preserved c =
    let passed = passed-plain c.args.mark c.args.limit c.args.bytes.now c.loop-place.count c.in-Some.place c.loop-place.invariant.1 c.in-Some.ensures.0.before in
    let place = c.loop-place.count + c.in-Some.place in
    (search rules, passed-one c.args.mark c.args.limit c.args.bytes.now place (c.loop-place.count + (c.in-Some.place + 1)) (omega arith) passed c.if-bytes-count.false)

pub returns-clause-passed : goal.returns-clause-passed
returns-clause-passed c = passed-all c.args.mark c.args.limit c.args.bytes.now c.loop-place.count c.loop-place.invariant.1 c.in_default.ensures
