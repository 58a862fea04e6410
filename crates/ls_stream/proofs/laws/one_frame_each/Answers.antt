use Rattle.ls_stream.proofs.FrameLaws.{one_frame_each}
use Rattle.ls_stream.proofs.laws.one_frame_each.Goals as goal

pub returns : goal.returns
returns c = one_frame_each c.parameters_are_legal_or_at_fault.ensures.legal
