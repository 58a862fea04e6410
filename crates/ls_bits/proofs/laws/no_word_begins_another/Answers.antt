use Rattle.ls_bits.proofs.GolombLaws.{same_word}
use Rattle.ls_bits.proofs.laws.no_word_begins_another.Goals as goal

pub returns : goal.returns
returns c k glimit qbpp bits rest others v w code one other = same_word k glimit qbpp bits v w rest others code one other
