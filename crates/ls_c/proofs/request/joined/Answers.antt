use Rattle.std.proofs.Common.{◌++◌, ◌∙◌, ap, arith}
use Rattle.ls_c.specs.Forms.{rows_of}
use Rattle.ls_c.proofs.RowLemmas.{advanced}
use Rattle.ls_c.proofs.request.joined.Goals as goal

pub loop-number-preserved : goal.loop-number-preserved
loop-number-preserved g c =
    let rows = c.args.rows.now in
    let before = c.loop-number.joined.items in
    advanced rows.row rows.stride rows.height c.loop-number.number before c.extend_from_slice.new.self.items c.loop-number.rest.now c.after-rest.result.now
    (rows_of rows.row rows.stride rows.height c.args.samples.now) (omega arith)
    (c.in_ok-extend_from_slice.ensures.items ∙ ap (λ xs. before ++ xs) c.front.ensures) c.after-rest.ensures c.loop-number.invariant
