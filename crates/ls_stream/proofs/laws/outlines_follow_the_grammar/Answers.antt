use Rattle.ls_stream.proofs.MostLemmas.{bounded_outlines_spell, spellings_have_bounded_outlines, bounded_faults_break}
use Rattle.ls_stream.proofs.laws.outlines_follow_the_grammar.Goals as goal

pub returns : goal.returns
returns c = record { spell = bounded_outlines_spell; are_read = spellings_have_bounded_outlines; faults = bounded_faults_break }
