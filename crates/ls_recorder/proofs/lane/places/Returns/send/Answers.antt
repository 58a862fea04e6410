use Rattle.std.proofs.Common.{arith}
use Rattle.ls_recorder.proofs.PlaceLemmas.{sends}
use Rattle.ls_recorder.proofs.lane.places.Returns.send.Goals as goal

pub send_as-sent-requires-clause-rule : goal.send_as-sent-requires-clause-rule
send_as-sent-requires-clause-rule g c = (sends _ _ _ _ (omega (arith, c.args.self.now.half)), λ items views k at. tt)
