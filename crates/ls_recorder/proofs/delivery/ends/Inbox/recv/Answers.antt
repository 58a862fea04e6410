use Rattle.std.proofs.Common.{refl}
use Rattle.ls_recorder.proofs.delivery.ends.Inbox.recv.Goals as goal

pub receive-requires-clause-rule : goal.receive-requires-clause-rule
receive-requires-clause-rule g c = (λ x items views k at. (_, tt, refl), λ items views k at. tt)
