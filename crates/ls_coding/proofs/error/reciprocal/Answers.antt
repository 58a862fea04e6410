use Rattle.ls_coding.proofs.GolombParameterLemmas.{reciprocal_at}
use Rattle.ls_coding.proofs.error.reciprocal.Goals as goal

pub returns : goal.returns
returns c = reciprocal_at c.args.n c.requires
