use Rattle.std.proofs.Common.{◌≡◌, ◌+◌, ◌-◌, ◌<◌, get_or, eq-eqb, refl, sym, ap, ◌∙◌, arith}
use Rattle.std.proofs.lemmas.Bool.{ne_eqb}
use Rattle.ls_frame.specs.Parameters.{limit_of}
use Rattle.ls_coding.specs.declared.neighbours.Neighbours.{Neighbours}
use Rattle.ls_coding.proofs.MirrorLemmas.{may_code}
use Rattle.ls_stream.specs.View.LineBuffers.{neighbours_in}
use Rattle.ls_stream.proofs.RowLemmas.{sample-moved, run_value, row_to_end, row_to_break, spent}
use Rattle.ls_stream.proofs.encode.row.code_span.Goals as goal

pub code_sample-requires-clause-may : goal.code_sample-requires-clause-may
code_sample-requires-clause-may g c =
    may_code c.args.coder.now.state (neighbours_in c.args.above.now c.args.line.now c.args.column) (get_or c.args.line.now (c.args.column + 1) 0) c.args.mirrored c.requires.uninterrupted c.requires.mirrored

pub returns-then-mirrored-ne0-clause-span : goal.returns-then-mirrored-ne0-clause-span
returns-then-mirrored-ne0-clause-span g c plane i same lines more =
    let n = neighbours_in c.args.above.now c.args.line.now c.args.column in
    let sample = get_or c.args.line.now (c.args.column + 1) 0 in
    let inside : c.args.column < plane.width = omega arith in
    sample-moved plane i c.args.column _ _ c.args.coder.now.state _ n sample inside
    (lines.neighbours c.args.column inside) (lines.samples c.args.column inside)
    (sym c.requires.mode ∙ ne_eqb c.args.mirrored.context 0 c.if-mirrored-ne0.true) (c.code_sample.ensures.bits n sample c.requires.mirrored) (c.code_sample.ensures.state n sample c.requires.mirrored) more

pub returns-then-end-width-clause-span : goal.returns-then-end-width-clause-span
returns-then-end-width-clause-span g c plane i same lines more =
    row_to_end plane i c.args.column c.run_end-end.result c.args.above.now c.args.line.now _ _ c.args.coder.now.state _ (neighbours_in c.args.above.now c.args.line.now c.args.column) c.args.width same lines
    c.requires.inside c.run_end-end.ensures c.if-end-width.true refl (sym c.requires.mode ∙ eq-eqb c.args.mirrored.context 0 c.if-mirrored-ne0.false) c.code_run_to_end.ensures.bits c.code_run_to_end.ensures.state more

pub code_interrupted_run-requires-clause-sample : goal.code_interrupted_run-requires-clause-sample
code_interrupted_run-requires-clause-sample g c =
    let neighbours_in : c.run_end-end.result < c.args.width = omega (arith, c.run_end-end.ensures.high) in
    let left : c.neighbours_in-around.result.a ≡ get_or c.args.line.now c.run_end-end.result 0 = ap (λ (n : Neighbours). n.a) c.neighbours_in-around.ensures in
    record {
      within = c.requires.lines.line_small (c.run_end-end.result + 1);
      other = λ e. c.run_end-end.ensures.other neighbours_in (e ∙ left ∙ run_value c.args.line.now c.args.width c.args.column c.run_end-end.result c.run_end-end.ensures);
    }

pub returns-clause-span : goal.returns-clause-span
returns-clause-span g c plane i same lines more =
    row_to_break plane i c.args.column c.run_end-end.result c.args.above.now c.args.line.now _ _ c.args.coder.now.state _ (neighbours_in c.args.above.now c.args.line.now c.args.column) c.neighbours_in-around.result c.args.width same lines
    c.requires.inside c.run_end-end.ensures (omega (arith, c.run_end-end.ensures.high)) refl (sym c.requires.mode ∙ eq-eqb c.args.mirrored.context 0 c.if-mirrored-ne0.false) c.neighbours_in-around.ensures c.code_interrupted_run.ensures.bits c.code_interrupted_run.ensures.state more

pub returns-clause-cost : goal.returns-clause-cost
returns-clause-cost g c =
    let limit = limit_of c.args.coder.now.state.parameters.maxval in
    let column = c.args.column in
    let end = c.run_end-end.result in
    let neighbours_in : end < c.args.width = omega (arith, c.run_end-end.ensures.high) in
    omega (arith, c.code_interrupted_run.ensures.cost, spent limit (end - column + 1) (c.args.width - (end + 1)) (c.args.width - column) (omega (arith, c.run_end-end.ensures.low)))
