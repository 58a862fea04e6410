use Rattle.std.proofs.Common.{[]}
use Rattle.ls_queue.specs.Queue.{new_queue}
use Rattle.ls_queue.proofs.HistoryLemmas.{IsAfter-new, replies_of-replay}
use Rattle.ls_queue.proofs.HistoryLaws.{only_lawful}
use Rattle.ls_queue.proofs.laws.lawful_replies_are_the_queues.Goals as goal

pub returns-clause-lawful : goal.returns-clause-lawful
returns-clause-lawful c = λ sources capacity steps there. replies_of-replay sources capacity steps there

pub returns-clause-no_others : goal.returns-clause-no_others
returns-clause-no_others c = λ sources capacity steps replies there size lawful. only_lawful sources capacity steps replies [] (new_queue sources capacity) (IsAfter-new sources capacity) there size lawful
