use Rattle.ls_bits.proofs.GolombLemmas.{length-code_word}
use Rattle.ls_bits.proofs.laws.words_keep_their_limit.Goals as goal

pub returns : goal.returns
returns c k glimit qbpp v code value = length-code_word k glimit qbpp v code
