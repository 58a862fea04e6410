use Rattle.std.proofs.Common.{rules, arith}
use Rattle.std.proofs.lemmas.Grind.{common_steps}
use Rattle.ls_c.proofs.request.lines_of.Goals as goal

pub returns-then-count-height-clause-exactly : goal.returns-then-count-height-clause-exactly
returns-then-count-height-clause-exactly c = grind (arith, common_steps)

pub returns-clause-exactly : goal.returns-clause-exactly
returns-clause-exactly c = grind (arith, common_steps)

pub returns-clause-stride : goal.returns-clause-stride
returns-clause-stride c = search rules
