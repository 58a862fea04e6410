use Rattle.ls_queue.proofs.AccountLaws.{each_rises}
use Rattle.ls_queue.proofs.laws.numbers_rise_along_the_channel_and_at_each_worker.Goals as goal

pub returns : goal.returns
returns g c = each_rises
