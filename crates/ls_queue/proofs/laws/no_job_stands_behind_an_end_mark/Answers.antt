use Rattle.ls_queue.proofs.AccountLaws.{marks_are_last}
use Rattle.ls_queue.proofs.laws.no_job_stands_behind_an_end_mark.Goals as goal

pub returns : goal.returns
returns g c = marks_are_last
