use Rattle.ls_frame.proofs.NextLemmas.{next-frame, next-end, next-broken}
use Rattle.ls_frame.proofs.netpbm.next_frame.Goals as goal

pub returns-clause-frame : goal.returns-clause-frame
returns-clause-frame g c = next-frame _ _ c.read_image.result c.read_image.ensures.bytes

pub returns-clause-end : goal.returns-clause-end
returns-clause-end g c = next-end _ _ c.read_image.result c.read_image.ensures.bytes

pub returns-clause-broken : goal.returns-clause-broken
returns-clause-broken g c = next-broken _ _ c.read_image.result c.read_image.ensures.bytes
