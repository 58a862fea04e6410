use Rattle.ls_stream.proofs.ExtentLaws.{spellings_have_extents, outlines_have_extents, too_few_for_both, one_is_next}
use Rattle.ls_stream.proofs.laws.extents_follow_the_grammar.Goals as goal

pub returns : goal.returns
returns c = record { spelled = spellings_have_extents; outlined = outlines_have_extents; too_few = too_few_for_both; one = one_is_next }
