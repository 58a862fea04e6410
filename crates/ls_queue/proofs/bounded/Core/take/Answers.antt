use Rattle.ls_queue.proofs.CoreLemmas.{IsCore-take}
use Rattle.ls_queue.proofs.bounded.Core.take.Goals as goal

pub invariant_of-self : goal.invariant_of-self
invariant_of-self g c = rw c.pop_front.ensures.items (IsCore-take _ c.self.invariant)
