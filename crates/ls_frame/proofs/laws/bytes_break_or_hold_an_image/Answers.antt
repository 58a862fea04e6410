use Rattle.ls_frame.proofs.NextLemmas.{breaks-no_image, breaks-some}
use Rattle.ls_frame.proofs.laws.bytes_break_or_hold_an_image.Goals as goal

pub returns-clause-broken : goal.returns-clause-broken
returns-clause-broken c = breaks-no_image

pub returns-clause-none : goal.returns-clause-none
returns-clause-none c = breaks-some
