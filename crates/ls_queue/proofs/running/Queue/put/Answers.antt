use Rattle.std.proofs.Common.{◌∙◌, rules}
use Rattle.ls_queue.proofs.AccountSteps.{job_sent}
use Rattle.ls_queue.proofs.running.Queue.put.Goals as goal

pub send_as-requires-clause-rule : goal.send_as-requires-clause-rule
send_as-requires-clause-rule g c =
    job_sent _ _ _ _ _ _ _ _ (c.loop.invariant.known ∙ c.requires.known) c.requires.count c.loop.invariant.message

pub loop-init : goal.loop-init
loop-init g c = search rules
