use Rattle.ls_inspect.proofs.EndLemmas.{left_few, ends_after, no_end_unspelled}
use Rattle.ls_inspect.proofs.extent.extent_of.Goals as goal

pub overflow_sub-result : goal.overflow_sub-result
overflow_sub-result c = left_few c.args.bytes.now c.first_bytes-first.result.now c.in-Ok.left.now c.first_bytes-first.ensures c.in-Ok.ensures

pub returns-in-Ok-clause-ends : goal.returns-in-Ok-clause-ends
returns-in-Ok-clause-ends c = ends_after c.args.bytes.now c.first_bytes-first.result.now c.in-Ok.left.now c.first_bytes-first.ensures c.in-Ok.ensures

pub returns-in-Err-clause-none : goal.returns-in-Err-clause-none
returns-in-Err-clause-none c = no_end_unspelled c.args.bytes.now c.fault_of.result c.fault_of.ensures
