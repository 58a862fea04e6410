use Rattle.std.proofs.Common.{List, ℕ, get_or, Fits, w8, sym, ◌∙◌, arith}
use Rattle.ls_bits.specs.Bits.{AreBytes}
use Rattle.ls_stream.proofs.FrameReadingLemmas.{are_bytes}
use Rattle.ls_c.proofs.ExtentsLemmas.{past_none, past_more, shorter, stopped_at_end, stopped_full, stopped_by}
use Rattle.ls_c.proofs.extent.next_extents.Goals as goal

pub loop-rest-init : goal.loop-rest-init
loop-rest-init c =
    let bytes : List ℕ = c.args.bytes.now in
    let are : AreBytes bytes = are_bytes bytes (λ i. let fits : Fits w8 (get_or bytes i 0) = c.type_inv.bytes i in omega arith) in
    past_none bytes c.args.extents.now c.no_details.result are c.no_details.ensures

pub returns-then-count-extents : goal.returns-then-count-extents
returns-then-count-extents c =
    stopped_full c.args.bytes.now c.args.extents.now c.loop-rest.extents c.loop-rest.rest.now c.loop-rest.found c.loop-rest.count c.loop-rest.fault c.loop-rest.invariant
    c.loop-rest.auto.extents (sym c.is_empty.ensures ∙ c.loop-rest-test.true) (omega (arith, c.if-count-extents.true))

pub returns-in-Err : goal.returns-in-Err
returns-in-Err c =
    stopped_by c.args.bytes.now c.args.extents.now c.loop-rest.extents c.loop-rest.rest.now c.loop-rest.found c.loop-rest.count c.loop-rest.fault c.details_of.result c.in-Err.first
    c.loop-rest.invariant c.loop-rest.auto.extents (sym c.is_empty.ensures ∙ c.loop-rest-test.true) (omega (arith, c.if-count-extents.false)) c.in-Err.ensures.stops c.in-Err.ensures.none
    c.details_of.ensures

pub loop-rest-smaller : goal.loop-rest-smaller
loop-rest-smaller c = shorter c.loop-rest.rest.now c.after-rest.result.now c.in-Ok.size c.in-Ok.ensures.ends c.after-rest.ensures

pub loop-rest-preserved : goal.loop-rest-preserved
loop-rest-preserved c =
    past_more c.args.bytes.now c.args.extents.now c.loop-rest.extents c.loop-rest.rest.now c.after-rest.result.now c.loop-rest.found c.loop-rest.count c.in-Ok.size c.loop-rest.fault
    c.loop-rest.invariant c.loop-rest.auto.extents (omega (arith, c.if-count-extents.false)) c.in-Ok.ensures.ends c.after-rest.ensures

pub returns : goal.returns
returns c =
    stopped_at_end c.args.bytes.now c.args.extents.now c.loop-rest.extents c.loop-rest.rest.now c.loop-rest.found c.loop-rest.count c.loop-rest.fault c.loop-rest.invariant
    (sym c.is_empty.ensures ∙ c.loop-rest-test.false)
