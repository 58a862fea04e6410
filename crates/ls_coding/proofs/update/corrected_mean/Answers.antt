use Rattle.std.proofs.Common.{ap, ◌∙◌, cond, pos, ◌+ℤ◌, ◌-ℤ◌}
use Rattle.std.specs.Prelude.{int_lt}
use Rattle.std.specs.Int.{int_max, int_min}
use mir.Syntax.{w32}
use mir.Val.{to_z, of_z}
use Rattle.ls_coding.proofs.SignedLemmas.{through}
use Rattle.ls_coding.proofs.StatsLemmas.{count_through, mean_through, one_less_through, corrected_mean_is}
use Rattle.ls_coding.proofs.update.corrected_mean.Goals as goal

pub returns : goal.returns
returns c =
    let n = to_z w32 c.args.n in
    let least = to_z w32 (of_z w32 (pos 1 -ℤ n)) in
    through c.max.result c.max.type_inv
    ∙ corrected_mean_is c.args.b n c.nearer.result least c.min.result c.max.result c.args.n c.requires.some (count_through c.args.n c.requires.few) c.requires.far
    (c.nearer.ensures ∙ ap (λ z. cond (int_lt z (pos 0)) (z +ℤ n) (z -ℤ n)) (mean_through c.args.b c.requires.low c.requires.high))
    (one_less_through c.args.n c.requires.few)
    (c.min.ensures.value ∙ ap (λ z. int_min z (pos 0)) (through c.nearer.result c.nearer.type_inv))
    (c.max.ensures.value ∙ ap (λ z. int_max z least) (through c.min.result c.min.type_inv))
