use Rattle.std.proofs.Common.{◌<◌, length, refl, sym, subst, arith}
use Rattle.std.proofs.lemmas.Grind.{common_steps}
use Rattle.ls_queue.specs.Queue.{Queue}
use Rattle.ls_queue.proofs.CoreLemmas.{IsCore-put}
use Rattle.ls_queue.proofs.bounded.Core.put.Goals as goal

pub invariant_of-self : goal.invariant_of-self
invariant_of-self g c =
    let room : length c.self.inside.held.items < c.self.inside.held.capacity = c.in-Ok.ensures.variant.0 refl in
    let known : c.args.source < length c.self.inside.counts.items =
    subst (λ (q : Queue g.row.T.Denot). c.args.source < length q.counts) (sym c.self.view_is) c.requires in
    rw c.in-Ok.ensures.ok (IsCore-put _ _ _ _ c.self.invariant known (grind (arith, common_steps)) room)

pub returns-then-number-clause-reply : goal.returns-then-number-clause-reply
returns-then-number-clause-reply g c = grind (arith, common_steps)

pub returns-in-Ok-clause-reply : goal.returns-in-Ok-clause-reply
returns-in-Ok-clause-reply g c = grind (arith, common_steps)

pub returns-in-Ok-clause-state : goal.returns-in-Ok-clause-state
returns-in-Ok-clause-state g c = grind (arith, common_steps)

pub returns-in-Err-clause-reply : goal.returns-in-Err-clause-reply
returns-in-Err-clause-reply g c = grind (arith, common_steps)
