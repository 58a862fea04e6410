use Rattle.std.proofs.Common.{◌∙◌, rules}
use Rattle.ls_stream.specs.View.Decoding.{IsAbove}
use Rattle.ls_stream.proofs.BlockLemmas.{one_more_above}
use Rattle.ls_stream.proofs.DecodingLemmas.{half_through}
use Rattle.ls_stream.proofs.decode.row.look_above.Goals as goal

pub loop-column-preserved : goal.loop-column-preserved
loop-column-preserved c =
    one_more_above c.loop-column.block.halves c.loop-column.block.rises c.loop-column.block.falls c.args.start c.loop-column.column _ _ _
    (IsAbove c.args.presets.now c.args.above.now) (search rules) (search rules) (search rules) (search rules)
    (record { half_is = half_through _ c.half_context.ensures.low c.half_context.ensures.high ∙ c.half_context.ensures.value; rise_is = c.saturating_sub.ensures; fall_is = c.saturating_sub-in-loop-column.ensures })
    c.loop-column.invariant
