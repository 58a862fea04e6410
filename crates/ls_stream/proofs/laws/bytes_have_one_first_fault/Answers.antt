use Rattle.ls_stream.proofs.AlikeLaws.{one_first_fault, next_has_the_first_fault}
use Rattle.ls_stream.proofs.laws.bytes_have_one_first_fault.Goals as goal

pub returns : goal.returns
returns c = record { one = one_first_fault c.parameters_are_legal_or_at_fault.ensures.legal; next = next_has_the_first_fault }
