use Rattle.ls_queue.proofs.EndLemmas.{no_end_of, some_end_of}
use Rattle.ls_queue.proofs.laws.the_lowest_missing_source_is_named.Goals as goal

pub returns-clause-missing : goal.returns-clause-missing
returns-clause-missing g c = λ sources source ended lowest. no_end_of source ended lowest.1

pub returns-clause-lowest : goal.returns-clause-lowest
returns-clause-lowest g c = λ sources source ended lowest s below. some_end_of s ended (lowest.2 s below)
