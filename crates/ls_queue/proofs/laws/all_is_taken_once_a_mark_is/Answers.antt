use Rattle.ls_queue.proofs.AccountLaws.{all_is_taken}
use Rattle.ls_queue.proofs.laws.all_is_taken_once_a_mark_is.Goals as goal

pub returns : goal.returns
returns g c = all_is_taken
