use Rattle.std.proofs.Common.{◌≡◌, map, set, get_or, Some, refl, sym, ap, ◌∙◌, rules}
use Rattle.std.proofs.lemmas.List.{map-set}
use Rattle.ls_recorder.specs.View.Answers.{sent_by}
use Rattle.crossbeam_channel.specs.Ends.{sends_on}
use Rattle.ls_recorder.specs.declared.delivery.answers.BoxView.{BoxView}
use Rattle.ls_recorder.specs.declared.delivery.ends.InboxSender.{InboxSender}
use Rattle.ls_recorder.proofs.BoxLemmas.{channel-set, get-map}
use Rattle.ls_recorder.proofs.delivery.ends.Outbox.send.Goals as goal

pub returns-in-Ok-clause-senders : goal.returns-in-Ok-clause-senders
returns-in-Ok-clause-senders g c =
    let at : c.index_mut-sender.result.now ≡ get_or c.args.self.now.senders.items c.args.source c.index_mut-sender.result.now = search rules in
    channel-set (λ (sender : InboxSender). sends_on sender.channel) c.args.self.now.senders.items _ c.args.source _ c.index_mut-sender.result.now refl
    (ap (λ (sender : InboxSender). sends_on sender.channel) at)

pub returns-in-Err-clause-senders : goal.returns-in-Err-clause-senders
returns-in-Err-clause-senders g c =
    let at : c.index_mut-sender.result.now ≡ get_or c.args.self.now.senders.items c.args.source c.index_mut-sender.result.now = search rules in
    channel-set (λ (sender : InboxSender). sends_on sender.channel) c.args.self.now.senders.items _ c.args.source _ c.index_mut-sender.result.now refl
    (ap (λ (sender : InboxSender). sends_on sender.channel) at)

pub returns-in-Ok-clause-sent : goal.returns-in-Ok-clause-sent
returns-in-Ok-clause-sent g c =
    let own = c.index_mut-sender.result.now in
    let at : own ≡ get_or c.args.self.now.senders.items c.args.source own = search rules in
    let sent = λ (sender : InboxSender). sent_by sender.pass in (
      sent_by own.pass,
      get-map sent c.args.self.now.senders.items c.args.source own c.requires ∙ ap (λ (sender : InboxSender). Some (sent sender)) (sym at),
      map-set sent c.args.self.now.senders.items c.args.source _ ∙ ap (λ l. set (map sent c.args.self.now.senders.items) c.args.source l) (ap (λ (v : BoxView). v.sent) c.in-Ok.ensures.rule),
    )

pub returns-in-Err-clause-sent : goal.returns-in-Err-clause-sent
returns-in-Err-clause-sent g c =
    let own = c.index_mut-sender.result.now in
    let at : own ≡ get_or c.args.self.now.senders.items c.args.source own = search rules in
    let sent = λ (sender : InboxSender). sent_by sender.pass in (
      search rules,
      channel-set sent c.args.self.now.senders.items _ c.args.source _ own refl (ap (λ (v : BoxView). v.sent) c.in-Err.ensures.rule.1 ∙ ap sent at),
    )

pub send_as-requires-clause-rule : goal.send_as-requires-clause-rule
send_as-requires-clause-rule g c = (λ items views room k at. (_, tt, refl), λ items views k at. tt)
