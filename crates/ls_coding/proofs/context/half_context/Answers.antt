use Rattle.std.proofs.Common.{pos, ◌-ℤ◌, ap, ◌∙◌, arith}
use Rattle.std.proofs.lemmas.Int.{ints}
use mir.Syntax.{w16}
use mir.Val.{to_z, of_z}
use Rattle.ls_coding.specs.Contexts.{region}
use Rattle.ls_coding.specs.View.SignedContexts.{half_context}
use Rattle.ls_coding.proofs.SignedLemmas.{through_16}
use Rattle.ls_coding.proofs.ContextLemmas.{half_number, region_through}
use Rattle.ls_coding.proofs.context.half_context.Goals as goal

pub returns-clause-value : goal.returns-clause-value
unfolding half_context
returns-clause-value c =
    let p = c.args.presets.now in
    let bits_2 = to_z w16 (of_z w16 c.region_of-q2.result) in
    through_16 c.half_number.result (omega (arith, ints, c.half_number.ensures.low)) (omega (arith, ints, c.half_number.ensures.high)) ∙ c.half_number.ensures.value
    ∙ ap (λ q. half_number q bits_2) (region_through c.region_of-q1.result c.region_of-q1.ensures.region ∙ c.region_of-q1.ensures.value)
    ∙ ap (half_number (region p (pos c.args.d -ℤ pos c.args.b))) (region_through c.region_of-q2.result c.region_of-q2.ensures.region ∙ c.region_of-q2.ensures.value)
