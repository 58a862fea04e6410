use Rattle.std.proofs.Common.{◌≡◌, ◌+◌, get_or, ap, ◌∙◌, subst, rules}
use Rattle.std.specs.Prelude.{◌==◌}
use Rattle.ls_coding.specs.declared.neighbours.Neighbours.{Neighbours}
use Rattle.ls_coding.specs.declared.mirrored.Mirrored.{Mirrored}
use Rattle.ls_coding.specs.Contexts.{is_run}
use Rattle.ls_coding.specs.View.Mirrors.{IsMirrored}
use Rattle.ls_stream.specs.View.LineBuffers.{neighbours_in}
use Rattle.ls_stream.proofs.BlockLemmas.{one_more}
use Rattle.ls_stream.proofs.encode.row.look_ahead.Goals as goal

pub loop-column-preserved : goal.loop-column-preserved
loop-column-preserved c =
    let p = c.args.presets.now in
    let above = c.args.above.now in
    let line = c.args.line.now in
    let block = c.loop-column.block in
    record {
      mirrored = one_more block.contexts block.predictions block.samples c.args.start c.loop-column.column c.mirror-mirrored.result
          (λ j one. IsMirrored p (neighbours_in above line j) (get_or line (j + 1) 0) one) (search rules) (search rules) (search rules) (search rules)
          (subst (λ (n : Neighbours). IsMirrored p n (get_or line (c.loop-column.column + 1) 0) c.mirror-mirrored.result) c.neighbours_in-neighbours.ensures c.mirror-mirrored.ensures.value)
          c.loop-column.invariant.mirrored;
      modes = one_more block.contexts block.predictions block.samples c.args.start c.loop-column.column c.mirror-mirrored.result
          (λ j (one : Mirrored). (one.context == 0) ≡ is_run (neighbours_in above line j)) (search rules) (search rules) (search rules) (search rules)
          (c.mirror-mirrored.ensures.run ∙ ap is_run c.neighbours_in-neighbours.ensures)
          c.loop-column.invariant.modes;
    }
