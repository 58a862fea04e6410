use Rattle.ls_queue.proofs.BalanceLaws.{took_all}
use Rattle.ls_queue.proofs.laws.a_settled_queue_was_taken_whole.Goals as goal

pub returns : goal.returns
returns g c = took_all
