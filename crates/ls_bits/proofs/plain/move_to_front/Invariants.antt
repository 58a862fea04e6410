use Rattle.ls_bits.proofs.PlainLemmas.{AreMoved}
use Rattle.ls_bits.proofs.plain.move_to_front.Given as goal

abbrev pub invariant-loop-place : goal.invariant-loop-place
invariant-loop-place l = AreMoved l.fn.from l.place l.fn.bytes l.bytes
