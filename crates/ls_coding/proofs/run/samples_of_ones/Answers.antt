use Rattle.std.proofs.Common.{arith}
use Rattle.ls_coding.proofs.SumLemmas.{sums_rise, ones_by_sums, few_of_ones}
use Rattle.ls_coding.proofs.run.samples_of_ones.Goals as goal

pub overflow_sub-result : goal.overflow_sub-result
overflow_sub-result c = sums_rise c.args.ones c.args.index c.requires

pub returns-clause-value : goal.returns-clause-value
returns-clause-value c = ones_by_sums c.args.ones c.args.index c.requires

pub returns-clause-small : goal.returns-clause-small
returns-clause-small c = let value = returns-clause-value c in omega (arith, value, few_of_ones c.args.ones c.args.index, c.requires)
