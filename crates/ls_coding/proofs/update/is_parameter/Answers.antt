use Rattle.std.proofs.lemmas.Bool.{ltb-true}
use Rattle.ls_coding.proofs.GolombParameterLemmas.{kept}
use Rattle.ls_coding.proofs.update.is_parameter.Goals as goal

pub returns : goal.returns
returns c = λ less. kept c.args.n c.args.a c.args.k c.requires.some c.requires.few c.requires.fits (ltb-true _ _ less)
