use Rattle.ls_queue.proofs.AccountLaws.{last_is_settled}
use Rattle.ls_queue.proofs.laws.the_channel_is_empty_once_all_passes_are_joined.Goals as goal

pub returns : goal.returns
returns g c = last_is_settled
