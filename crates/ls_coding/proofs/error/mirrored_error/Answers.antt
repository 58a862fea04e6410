use Rattle.std.proofs.Common.{◌≡◌, ℤ, pos, ◌+ℤ◌, ◌-ℤ◌, ap, ◌∙◌, arith}
use Rattle.std.proofs.lemmas.Int.{ints}
use mir.Syntax.{w32}
use mir.Val.{to_z, of_z}
use Rattle.ls_frame.specs.Parameters.{range_of}
use Rattle.ls_coding.specs.Numbers.{clamped}
use Rattle.ls_coding.specs.Errors.{reduced}
use Rattle.ls_coding.proofs.SignedLemmas.{through}
use Rattle.ls_coding.proofs.ErrorLemmas.{difference_is}
use Rattle.ls_coding.proofs.StatsLemmas.{bias_through}
use Rattle.ls_coding.proofs.error.mirrored_error.Goals as goal

difference : (c : goal.After-reduced) → to_z w32 (of_z w32 (to_z w32 (of_z w32 c.from.result) -ℤ to_z w32 (of_z w32 c.from-2.result))) ≡ pos c.args.sample -ℤ pos c.corrected-corrected.result
difference c =
    difference_is _ _ (pos c.args.sample) (pos c.corrected-corrected.result) (through c.from.result c.from.type_inv ∙ c.from.ensures) (through c.from-2.result c.from-2.type_inv ∙ c.from-2.ensures) (omega (arith, ints)) (omega (arith, ints))

pub returns-clause-value : goal.returns-clause-value
returns-clause-value c =
    through c.reduced.result c.reduced.type_inv
    ∙ c.reduced.ensures.value
    ∙ ap (λ n. reduced n (to_z w32 (of_z w32 (to_z w32 (of_z w32 c.from.result) -ℤ to_z w32 (of_z w32 c.from-2.result))))) c.range.ensures
    ∙ ap (reduced (range_of c.args.presets.maxval)) (difference c)
    ∙ ap (λ (z : ℤ). reduced (range_of c.args.presets.maxval) (pos c.args.sample -ℤ z)) c.corrected-corrected.ensures.value
    ∙ ap (λ (z : ℤ). reduced (range_of c.args.presets.maxval) (pos c.args.sample -ℤ clamped (pos 0) (pos c.args.presets.maxval) (pos c.args.prediction +ℤ z))) (bias_through c.args.bias c.requires.low c.requires.high)
