use Rattle.ls_stream.specs.View.Blocks.{AreMirrored}
use Rattle.ls_stream.proofs.encode.row.look_ahead.Given as goal

abbrev pub invariant-loop-column : goal.invariant-loop-column
invariant-loop-column l = AreMirrored l.presets l.start l.column l.above l.line l.block
