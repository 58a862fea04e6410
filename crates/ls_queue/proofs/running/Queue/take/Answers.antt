use Rattle.std.proofs.Common.{◌∙◌, ◌<◌, ap, subst}
use Rattle.crossbeam_channel.specs.Claims.{view}
use Rattle.ls_queue.specs.declared.views.Message.{Message}
use Rattle.ls_queue.specs.declared.views.Message.TheVariants as message
use Rattle.ls_queue.specs.declared.views.View.{View}
use Rattle.ls_queue.specs.View.Account.{AfterTake, with_job}
use Rattle.ls_queue.specs.View.Running.{jobs_in_first}
use Rattle.ls_queue.proofs.AccountSteps.{received}
use Rattle.ls_queue.proofs.running.Queue.take.Goals as goal

pub receive-requires-clause-rule : goal.receive-requires-clause-rule
receive-requires-clause-rule g c =
    received _ _ _ _ _ (c.loop.invariant.known ∙ c.requires.known) c.loop.invariant.before

pub returns-in-Ok-Job-clause-taken : goal.returns-in-Ok-Job-clause-taken
returns-in-Ok-Job-clause-taken g c =
    let was = c.loop.invariant.known ∙ c.requires.known in
    let now = view c.receive.new.pass in
    let after : Message g.row.T.Denot → Type 0 = λ m. AfterTake (view c.loop.seat.pass) m now in
    let rule : after (message.Job c.in-Ok-Job.job) = subst after c.in-Ok-Job.field-0-is c.in-Ok-Job.ensures.rule in (
      c.loop.invariant.before,
      c.loop.invariant.done,
      ap (λ (v : View g.row.T.Denot). jobs_in_first v.takes) rule.0
          ∙ ap (λ (v : View g.row.T.Denot). jobs_in_first (with_job v.takes c.in-Ok-Job.job)) was,
      subst (λ (v : View g.row.T.Denot). c.in-Ok-Job.job.source < v.sources) was rule.1,
    )
