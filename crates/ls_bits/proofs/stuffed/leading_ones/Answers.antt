use Rattle.ls_bits.proofs.OnesLemmas.{ones_and_more, ones_alone}
use Rattle.ls_bits.proofs.stuffed.leading_ones.Goals as goal

pub returns-clause-some : goal.returns-clause-some
returns-clause-some c few = ones_and_more c.args.word c.leading_zeros.result c.ranges.word.fits c.leading_zeros.ensures few

pub returns-clause-all : goal.returns-clause-all
returns-clause-all c many = ones_alone c.args.word c.leading_zeros.result c.ranges.word.fits c.leading_zeros.ensures many
