use Rattle.ls_bits.proofs.GolombLaws.{canonical}
use Rattle.ls_bits.proofs.laws.words_are_canonical.Goals as goal

pub returns : goal.returns
returns c k glimit qbpp bits rest v code word un = canonical k glimit qbpp bits v rest code word un
