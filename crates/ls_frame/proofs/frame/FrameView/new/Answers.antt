use Rattle.std.proofs.Common.{◌∙◌, sym, subst}
use Rattle.ls_frame.specs.Picture.{IsFrame}
use Rattle.ls_frame.proofs.SampleLemmas.{whole_frame}
use Rattle.ls_frame.proofs.frame.FrameView.new.Goals as goal

pub invariant_of-result : goal.invariant_of-result
invariant_of-result c = subst IsFrame (sym c.in-Ok.ensures.exactly.1) (whole_frame _ c.in-Ok.ensures.exactly.0 (sym c.first_above.ensures ∙ c.in-None.is))

pub returns-in-None-clause-lawful : goal.returns-in-None-clause-lawful
returns-in-None-clause-lawful c = invariant_of-result c
