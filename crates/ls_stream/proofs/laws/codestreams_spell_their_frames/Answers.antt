use Rattle.ls_stream.proofs.SpellingLemmas.{spells}
use Rattle.ls_stream.proofs.laws.codestreams_spell_their_frames.Goals as goal

pub returns : goal.returns
returns c = spells c.parameters_are_legal_or_at_fault.ensures.none
