use Rattle.std.proofs.Common.{ap, ◌∙◌}
use Rattle.std.specs.Prelude.{◌&&◌}
use mir.Syntax.{w16}
use mir.Val.{to_z, of_z}
use Rattle.ls_coding.specs.Contexts.{region, is_zero, context_number, d1, d2}
use Rattle.ls_coding.specs.View.SignedContexts.{signed_context}
use Rattle.ls_coding.proofs.SignedLemmas.{through_16}
use Rattle.ls_coding.proofs.ContextLemmas.{region_through, zero_1}
use Rattle.ls_coding.proofs.context.signed_context.Goals as goal

pub returns-clause-value : goal.returns-clause-value
unfolding signed_context
returns-clause-value c =
    let p = c.args.presets.now in
    let n = c.args.neighbours.now in
    let bits_2 = to_z w16 (of_z w16 c.region_of-q2.result) in
    let bits_3 = to_z w16 (of_z w16 c.region_of-q3.result) in
    through_16 c.context_number.result c.context_number.ensures.low c.context_number.ensures.high ∙ c.context_number.ensures.value
    ∙ ap (λ q. context_number q bits_2 bits_3) (region_through c.region_of-q1.result c.region_of-q1.ensures.region ∙ c.region_of-q1.ensures.value)
    ∙ ap (λ q. context_number (region p (d1 n)) q bits_3) (region_through c.region_of-q2.result c.region_of-q2.ensures.region ∙ c.region_of-q2.ensures.value)
    ∙ ap (λ q. context_number (region p (d1 n)) (region p (d2 n)) q) (region_through c.region_of-q3.result c.region_of-q3.ensures.region ∙ c.region_of-q3.ensures.value)

pub returns-clause-run : goal.returns-clause-run
returns-clause-run c =
    let n = c.args.neighbours.now in
    let q1 = c.region_of-q1.result in
    let q2 = c.region_of-q2.result in
    let q3 = c.region_of-q3.result in
    let bits_2 = to_z w16 (of_z w16 q2) in
    let bits_3 = to_z w16 (of_z w16 q3) in
    ap is_zero (through_16 c.context_number.result c.context_number.ensures.low c.context_number.ensures.high ∙ c.context_number.ensures.value
    ∙ ap (λ q. context_number q bits_2 bits_3) (region_through q1 c.region_of-q1.ensures.region)
    ∙ ap (λ q. context_number q1 q bits_3) (region_through q2 c.region_of-q2.ensures.region)
    ∙ ap (λ q. context_number q1 q2 q) (region_through q3 c.region_of-q3.ensures.region))
    ∙ zero_1 q1 q2 q3 c.region_of-q2.ensures.region c.region_of-q3.ensures.region
    ∙ ap (λ b. b && is_zero q2 && is_zero q3) c.region_of-q1.ensures.zero
    ∙ ap (λ b. is_zero (d1 n) && b && is_zero q3) c.region_of-q2.ensures.zero
    ∙ ap (λ b. is_zero (d1 n) && is_zero (d2 n) && b) c.region_of-q3.ensures.zero
