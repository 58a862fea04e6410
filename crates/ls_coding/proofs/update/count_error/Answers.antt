use Rattle.std.proofs.Common.{rules}
use Rattle.ls_coding.proofs.update.count_error.Goals as goal

pub returns-clause-b : goal.returns-clause-b
returns-clause-b c = search rules

pub returns-clause-n : goal.returns-clause-n
returns-clause-n c = search rules
