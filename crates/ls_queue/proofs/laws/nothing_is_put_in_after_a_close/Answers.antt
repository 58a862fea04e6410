use Rattle.ls_queue.proofs.HistoryLaws.{closed_after_close, sent_by_close}
use Rattle.ls_queue.proofs.laws.nothing_is_put_in_after_a_close.Goals as goal

pub returns-clause-closed : goal.returns-clause-closed
returns-clause-closed c = closed_after_close

pub returns-clause-sent : goal.returns-clause-sent
returns-clause-sent c = sent_by_close
