use Rattle.ls_queue.proofs.HistoryLaws.{handed_out_in_order, handed_out_once}
use Rattle.ls_queue.proofs.laws.items_are_handed_out_once_in_order.Goals as goal

pub returns-clause-order : goal.returns-clause-order
returns-clause-order c = handed_out_in_order

pub returns-clause-once : goal.returns-clause-once
returns-clause-once c = handed_out_once
