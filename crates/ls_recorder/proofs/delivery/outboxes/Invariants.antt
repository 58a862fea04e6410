use Rattle.std.proofs.Common.{◌≡◌, length}
use Rattle.std.specs.List.{AllByRecursion}
use Rattle.ls_recorder.specs.declared.delivery.ends.Outbox.{Outbox}
use Rattle.ls_recorder.specs.View.Boxes.{LeadAlike}
use Rattle.ls_recorder.proofs.delivery.outboxes.Given as goal

-- the outboxes made so far; the senders still lead to the same inboxes
abbrev pub invariant-loop-worker : goal.invariant-loop-worker
invariant-loop-worker l = record {
  many : length l.outboxes.items ≡ l._worker;
  lead : AllByRecursion (λ (outbox : Outbox). LeadAlike outbox.senders.items l.fn.senders.items) l.outboxes.items;
  same : LeadAlike l.senders.items l.fn.senders.items;
}
