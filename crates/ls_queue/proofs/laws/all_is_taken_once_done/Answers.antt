use Rattle.ls_queue.proofs.HistoryLaws.{all_taken_once_done}
use Rattle.ls_queue.proofs.laws.all_is_taken_once_done.Goals as goal

pub returns : goal.returns
returns c = all_taken_once_done
