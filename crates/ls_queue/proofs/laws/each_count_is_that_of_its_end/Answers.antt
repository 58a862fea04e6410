use Rattle.ls_queue.proofs.EndLemmas.{count_of_end}
use Rattle.ls_queue.proofs.laws.each_count_is_that_of_its_end.Goals as goal

pub returns : goal.returns
returns g c = count_of_end
