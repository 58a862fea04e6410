use Rattle.ls_coding.proofs.RunLaws.{one_bit_more, one_bit_left, no_bit_left, bits_of_break}
use Rattle.ls_coding.proofs.laws.runs_are_read_bit_by_bit.Goals as goal

pub returns-clause-one : goal.returns-clause-one
returns-clause-one c = one_bit_more

pub returns-clause-part : goal.returns-clause-part
returns-clause-part c = one_bit_left

pub returns-clause-none : goal.returns-clause-none
returns-clause-none c = no_bit_left

pub returns-clause-interrupted : goal.returns-clause-interrupted
returns-clause-interrupted c = bits_of_break
