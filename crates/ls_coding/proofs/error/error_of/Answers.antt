use Rattle.std.proofs.Common.{◌≡◌, pos, ◌-ℤ◌, neg_ℤ, ◌≤ℤ◌, ap, ◌∙◌, arith}
use Rattle.std.proofs.lemmas.Int.{ints}
use mir.Syntax.{w32}
use mir.Val.{to_z, of_z}
use Rattle.ls_frame.specs.Parameters.{range_of}
use Rattle.ls_coding.specs.Contexts.{signed}
use Rattle.ls_coding.specs.Errors.{reduced}
use Rattle.ls_coding.proofs.SignedLemmas.{through}
use Rattle.ls_coding.proofs.ErrorLemmas.{difference_is}
use Rattle.ls_coding.proofs.error.error_of.Goals as goal

low : (c : goal.After-reduced) → neg_ℤ (pos 131072) ≤ℤ (pos c.args.sample -ℤ pos c.args.prediction)
low c = omega (arith, ints)

high : (c : goal.After-reduced) → (pos c.args.sample -ℤ pos c.args.prediction) ≤ℤ pos 131072
high c = omega (arith, ints)

difference : (c : goal.After-reduced) → to_z w32 (of_z w32 (to_z w32 (of_z w32 c.from.result) -ℤ to_z w32 (of_z w32 c.from-2.result))) ≡ pos c.args.sample -ℤ pos c.args.prediction
difference c =
    difference_is _ _ (pos c.args.sample) (pos c.args.prediction) (through c.from.result c.from.type_inv ∙ c.from.ensures) (through c.from-2.result c.from-2.type_inv ∙ c.from-2.ensures) (low c) (high c)

pub returns-clause-value : goal.returns-clause-value
returns-clause-value c =
    through c.reduced.result c.reduced.type_inv
    ∙ c.reduced.ensures.value
    ∙ ap (λ n. reduced n (to_z w32 (of_z w32 c.signed.result))) c.range.ensures
    ∙ ap (reduced (range_of c.args.presets.maxval)) (through c.signed.result c.signed.type_inv ∙ c.signed.ensures ∙ ap (signed c.args.negative) (difference c))
