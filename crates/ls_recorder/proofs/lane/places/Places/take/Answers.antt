use Rattle.std.proofs.Common.{arith}
use Rattle.ls_recorder.proofs.PlaceLemmas.{receives}
use Rattle.ls_recorder.proofs.lane.places.Places.take.Goals as goal

pub receive-back-requires-clause-rule : goal.receive-back-requires-clause-rule
receive-back-requires-clause-rule g c = (receives _ _ (omega (arith, c.loop.invariant.half)), λ items views k at. tt)
