use Rattle.ls_stream.specs.View.Decoding.{AreAbove}
use Rattle.ls_stream.proofs.decode.row.look_above.Given as goal

abbrev pub invariant-loop-column : goal.invariant-loop-column
invariant-loop-column l = AreAbove l.presets l.start l.column l.above l.block
