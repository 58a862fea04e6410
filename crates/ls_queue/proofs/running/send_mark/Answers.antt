use Rattle.ls_queue.proofs.EndLemmas.{mark_sent}
use Rattle.ls_queue.proofs.running.send_mark.Goals as goal

pub send_as-requires-clause-rule : goal.send_as-requires-clause-rule
send_as-requires-clause-rule g c = mark_sent _ _ _ _ _ c.loop.invariant.known c.requires.closes c.requires.counts
