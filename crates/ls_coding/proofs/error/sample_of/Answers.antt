use Rattle.std.proofs.Common.{◌≡◌, ◌≤◌, pos, ◌+ℤ◌, ap, ◌∙◌, arith}
use mir.Syntax.{w32}
use mir.Val.{to_z, of_z}
use Rattle.ls_coding.specs.Contexts.{signed}
use Rattle.ls_coding.proofs.SignedLemmas.{through}
use Rattle.ls_coding.proofs.ErrorLemmas.{sample_has, sample_once, sum_is, signed_low, signed_high}
use Rattle.ls_coding.proofs.error.sample_of.Goals as goal

most : (c : goal.After-modulo_range) → c.args.presets.maxval ≤ 65535
most c = omega arith

sum : (c : goal.After-modulo_range) → to_z w32 (of_z w32 (to_z w32 (of_z w32 c.from.result) +ℤ to_z w32 (of_z w32 c.signed-difference.result))) ≡ pos c.args.prediction +ℤ signed c.args.negative c.args.error
sum c =
    sum_is _ _ (pos c.args.prediction) (signed c.args.negative c.args.error)
    (through c.from.result c.from.type_inv ∙ c.from.ensures)
    (through c.signed-difference.result c.signed-difference.type_inv ∙ c.signed-difference.ensures ∙ ap (signed c.args.negative) (through c.args.error c.ranges.error.sfits))
    (signed_low c.args.negative c.args.presets.maxval c.args.prediction c.args.error (most c) c.requires.prediction c.requires.reduced)
    (signed_high c.args.negative c.args.presets.maxval c.args.prediction c.args.error (most c) c.requires.prediction c.requires.reduced)

pub returns-clause-error : goal.returns-clause-error
returns-clause-error c =
    sample_has _ c.args.prediction c.modulo_range.result c.args.negative c.args.error _ (omega arith) (omega arith) c.requires.reduced (sum c) (rw c.range.ensures at c.modulo_range.ensures.value)

pub returns-clause-only : goal.returns-clause-only
returns-clause-only c sample within same =
    sample_once _ c.args.prediction c.modulo_range.result sample c.args.negative c.args.error _ (omega arith) (omega arith) (omega arith) (sum c) (rw c.range.ensures at c.modulo_range.ensures.value) same
