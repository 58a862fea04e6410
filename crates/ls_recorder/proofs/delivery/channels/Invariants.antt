use Rattle.std.proofs.Common.{◌≡◌, length}
use Rattle.ls_recorder.specs.View.Boxes.{AreFrom, HaveCapacity, LeadTo}
use Rattle.ls_recorder.proofs.delivery.channels.Given as goal

-- a box for each source so far, with a sender to each
abbrev pub invariant-loop-source : goal.invariant-loop-source
invariant-loop-source l = record {
  many : length l.inboxes.items ≡ l.source;
  in_order : AreFrom 0 l.inboxes.items;
  room : HaveCapacity l.window l.inboxes.items;
  lead : LeadTo l.inboxes.items l.senders.items;
}
