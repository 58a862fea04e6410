use Rattle.std.proofs.Common.{rules, ◌≡◌, length, All, IsTrue, None, subst, sym, ap, ◌∙◌}
use Rattle.std.proofs.lemmas.List.{length-replicate}
use Rattle.ls_queue.specs.Steps.{is_known}
use Rattle.ls_queue.specs.History.{IsReplay}
use Rattle.ls_queue.specs.Faults.{replay_fault}
use Rattle.ls_queue.specs.Steps.{replies_of}
use Rattle.ls_queue.proofs.FaultLemmas.{replay_fault-none}
use Rattle.ls_queue.proofs.HistoryLemmas.{replies_of-replay}
use Rattle.ls_queue.proofs.steps.replay.Goals as goal

pub replies_of-requires : goal.replies_of-requires
replies_of-requires c =
    let none : replay_fault c.args.sources c.args.capacity c.args.steps.now ≡ None = search rules in
    let there = replay_fault-none c.args.sources c.args.capacity c.args.steps.now none in
    let size : length c.in_ok-queue.queue.counts ≡ c.args.sources = ap (λ q. length q.counts) c.in_ok-queue.ensures.1 ∙ length-replicate c.args.sources 0 in
    record { known = subst (λ n. All (λ step. IsTrue (is_known n step)) c.args.steps.now) (sym size) there.1 }

pub returns-clause-lawful : goal.returns-clause-lawful
returns-clause-lawful c =
    let none : replay_fault c.args.sources c.args.capacity c.args.steps.now ≡ None = search rules in
    let there = replay_fault-none c.args.sources c.args.capacity c.args.steps.now none in
    subst (IsReplay c.args.sources c.args.capacity c.args.steps.now) (sym (c.in_ok-replies.ensures ∙ ap (λ q. replies_of q c.args.steps.now) c.in_ok-queue.ensures.1))
    (replies_of-replay c.args.sources c.args.capacity c.args.steps.now there.1)
