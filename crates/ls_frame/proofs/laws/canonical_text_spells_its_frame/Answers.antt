use Rattle.ls_frame.proofs.CanonicalLaws.{canonical-spells}
use Rattle.ls_frame.proofs.laws.canonical_text_spells_its_frame.Goals as goal

pub returns : goal.returns
returns c = canonical-spells
