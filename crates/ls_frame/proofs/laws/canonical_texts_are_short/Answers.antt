use Rattle.ls_frame.proofs.CanonicalLaws.{canonical-short}
use Rattle.ls_frame.proofs.laws.canonical_texts_are_short.Goals as goal

pub returns : goal.returns
returns c = canonical-short
