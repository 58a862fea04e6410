use Rattle.std.proofs.Common.{◌≡◌, ◌∙◌, ap, length, arith}
use Rattle.ls_frame.specs.Picture.{components}
use Rattle.ls_frame.specs.Parameters.{limit_of}
use Rattle.ls_stream.specs.Layout.{codestream}
use Rattle.ls_stream.proofs.FrameLemmas.{few_components}
use Rattle.ls_c.proofs.BoundLemmas.{within_most, at_most, most_small}
use Rattle.ls_c.proofs.extent.bound.Goals as goal

pub returns-clause-enough : goal.returns-clause-enough
returns-clause-enough c f p frame legal same is =
    at_most c.args.form.now c.from-count.result c.from-limit.result c.from.result c.from-2.result (length (codestream f p))
    (c.from-count.ensures ∙ c.components.ensures ∙ ap components c.in-Ok.ensures.kind)
    (c.from-limit.ensures ∙ c.limit.ensures.value ∙ ap limit_of (c.default_of.ensures.maxval ∙ c.in-Ok.ensures.maxval))
    (c.from.ensures ∙ c.in-Ok.ensures.width) (c.from-2.ensures ∙ c.in-Ok.ensures.height) (within_most f p c.args.form.now frame legal same is)

pub returns-clause-small : goal.returns-clause-small
returns-clause-small c =
    let kind = c.in-Ok.form.kind in
    let count : c.from-count.result ≡ components kind = c.from-count.ensures ∙ c.components.ensures in
    most_small c.from-count.result c.from-limit.result c.from.result c.from-2.result (omega (arith, count, few_components kind)) (omega (arith, c.from-limit.ensures, c.limit.ensures.high))
    (rw count (rw c.from.ensures (rw c.from-2.ensures c.in-Ok.ensures.few)))
