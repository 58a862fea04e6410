use Rattle.ls_queue.proofs.AccountLaws.{each_once, each_item, no_others}
use Rattle.ls_queue.proofs.laws.each_item_is_taken_or_in_the_channel.Goals as goal

pub returns-clause-once : goal.returns-clause-once
returns-clause-once g c = each_once

pub returns-clause-item : goal.returns-clause-item
returns-clause-item g c = each_item

pub returns-clause-no_others : goal.returns-clause-no_others
returns-clause-no_others g c = no_others
