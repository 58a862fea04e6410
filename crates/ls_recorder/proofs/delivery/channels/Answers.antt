use Rattle.std.proofs.Common.{sym, ap, ◌∙◌, rules}
use Rattle.crossbeam_channel.specs.Ends.{sends_on, receives_on, ruled_capacity}
use Rattle.ls_recorder.specs.declared.delivery.ends.Inbox.{Inbox}
use Rattle.ls_recorder.specs.declared.delivery.ends.InboxSender.{InboxSender}
use Rattle.ls_film.proofs.FilmLemmas.{all-more}
use Rattle.ls_recorder.proofs.BoxLemmas.{AreFrom-push, both-push}
use Rattle.ls_recorder.proofs.delivery.channels.Goals as goal

pub loop-source-preserved : goal.loop-source-preserved
loop-source-preserved c =
    let before = c.loop-source.invariant in
    record {
      many = search rules;
      in_order = rw (c.in_ok-push.ensures.items) (AreFrom-push _ _ before.in_order (sym before.many));
      room = rw (c.in_ok-push.ensures.items) (all-more _ _ _ before.room (ap ruled_capacity c.in_ok-channel.ensures.0 ∙ c.in_ok-channel.ensures.1));
      lead = rw (c.in_ok-push.ensures.items, c.in_ok-push-2.ensures.items)
          (both-push (λ (sender : InboxSender). sends_on sender.channel) (λ (inbox : Inbox). receives_on inbox.receiver) c.loop-source.senders.items c.loop-source.inboxes.items _ _ before.lead (sym c.in_ok-channel.ensures.0));
    }
