use Rattle.std.proofs.Common.{◌≡◌, ◌<◌, get_or, length, ap, ◌∙◌, rules}
use Rattle.crossbeam_channel.specs.Ends.{sends_on}
use Rattle.ls_recorder.specs.declared.delivery.ends.InboxSender.{InboxSender}
use Rattle.ls_recorder.proofs.BoxLemmas.{copies-push, channel-set}
use Rattle.ls_recorder.proofs.delivery.copies.Goals as goal

pub loop-place-preserved : goal.loop-place-preserved
loop-place-preserved c =
    let before = c.loop-place.invariant in
    let inside : c.loop-place.place < length c.loop-place.senders.items = search rules in
    let at : c.index_mut.result.now ≡ get_or c.loop-place.senders.items c.loop-place.place c.index_mut.result.now = search rules in
    let here = ap (λ (sender : InboxSender). sends_on sender.channel) at in
    record {
      many = search rules;
      lead = rw (c.in_ok-push.ensures.items)
          (copies-push (λ (sender : InboxSender). sends_on sender.channel) c.loop-place.senders.items _ c.loop-place.copies.items c.loop-place.place _ c.index_mut.result.now inside before.same before.lead (c.in_ok-another.ensures.another ∙ here));
      same = channel-set (λ (sender : InboxSender). sends_on sender.channel) c.loop-place.senders.items _ c.loop-place.place _ c.index_mut.result.now before.same (c.in_ok-another.ensures.same ∙ here);
    }
