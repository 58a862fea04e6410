use Rattle.std.proofs.Common.{◌+◌, ◌<◌, length, arith}
use Rattle.ls_bits.proofs.DataLemmas.{data-up_to_ff, data-more_pair, data-longest, data-all, data-stop_end, data-stop_marker}
use Rattle.ls_bits.proofs.data.data_of.Goals as goal

pub returns-then-len-bytes-clause-len : goal.returns-then-len-bytes-clause-len
returns-then-len-bytes-clause-len c =
    let bytes = c.args.bytes.now in
    let len = c.loop-place.len + c.in-Some.place in
    let front = data-up_to_ff bytes c.loop-place.len c.in-Some.place c.loop-place.invariant.1 c.in-Some.ensures in
    data-longest bytes len front.0 front.1 front.2 (data-stop_end bytes len c.if-len-bytes.true)

pub returns-then-bytes-len-ge128-clause-len : goal.returns-then-bytes-len-ge128-clause-len
returns-then-bytes-len-ge128-clause-len c =
    let bytes = c.args.bytes.now in
    let len = c.loop-place.len + c.in-Some.place in
    let front = data-up_to_ff bytes c.loop-place.len c.in-Some.place c.loop-place.invariant.1 c.in-Some.ensures in
    let next : len + 1 < length bytes = omega (arith, front.0, c.if-len-bytes.false) in
    data-longest bytes len front.0 front.1 front.2 (data-stop_marker bytes len next c.if-bytes-len-ge128.true)

pub loop-place-preserved : goal.loop-place-preserved
loop-place-preserved c =
    let bytes = c.args.bytes.now in
    let len = c.loop-place.len + c.in-Some.place in
    let front = data-up_to_ff bytes c.loop-place.len c.in-Some.place c.loop-place.invariant.1 c.in-Some.ensures in
    let next : len + 1 < length bytes = omega (arith, front.0, c.if-len-bytes.false) in
    (omega arith, data-more_pair bytes len next front.1 front.2 c.if-bytes-len-ge128.false)

pub returns-clause-len : goal.returns-clause-len
returns-clause-len c = data-all c.args.bytes.now c.loop-place.len c.loop-place.invariant.0 c.loop-place.invariant.1 c.in_default.ensures
