use Rattle.std.proofs.Common.{◌≡◌, length, take, map}
use Rattle.crossbeam_channel.specs.Ends.{sends_on}
use Rattle.ls_recorder.specs.declared.delivery.ends.InboxSender.{InboxSender}
use Rattle.ls_recorder.specs.View.Boxes.{LeadAlike}
use Rattle.ls_recorder.proofs.delivery.copies.Given as goal

-- the copies of the senders so far; the senders still lead to the same inboxes
abbrev pub invariant-loop-place : goal.invariant-loop-place
invariant-loop-place l = record {
  many : length l.copies.items ≡ l.place;
  lead : map (λ (sender : InboxSender). sends_on sender.channel) l.copies.items ≡ take l.place (map (λ (sender : InboxSender). sends_on sender.channel) l.fn.senders.items);
  same : LeadAlike l.senders.items l.fn.senders.items;
}
