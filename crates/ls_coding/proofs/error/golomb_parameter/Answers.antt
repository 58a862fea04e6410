use Rattle.std.proofs.Common.{refl}
use Rattle.ls_coding.proofs.GolombParameterLemmas.{found_by_quotient}
use Rattle.ls_coding.proofs.error.golomb_parameter.Goals as goal

pub returns-then-n-le256 : goal.returns-then-n-le256
returns-then-n-le256 c =
    found_by_quotient c.args.n c.args.a c.quotient_below.result _ c.requires.some c.requires.few c.quotient_below.ensures.within c.quotient_below.ensures.value refl
