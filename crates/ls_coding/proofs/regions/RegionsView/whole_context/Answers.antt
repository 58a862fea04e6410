use Rattle.std.proofs.Common.{◌+ℤ◌, ap, sym, ◌∙◌}
use Rattle.ls_coding.specs.declared.neighbours.Neighbours.{Neighbours}
use Rattle.ls_coding.specs.Contexts.{is_zero}
use Rattle.ls_coding.specs.View.SignedContexts.{half_context}
use Rattle.ls_coding.proofs.ContextLemmas.{whole_through, whole-zero, signed_context-halves}
use Rattle.ls_coding.proofs.regions.RegionsView.whole_context.Goals as goal

pub returns-clause-value : goal.returns-clause-value
returns-clause-value c b d e =
    let p = c.args.self.now in
    let n : Neighbours = record { a = c.args.a; b = b; c = c.args.c; d = d } in
    whole_through c.args.half c.region.result c.requires.half_low c.requires.half_high c.region.ensures.region
    ∙ ap (λ z. z +ℤ c.region.result) e ∙ ap (λ z. half_context p b c.args.c d +ℤ z) c.region.ensures.value
    ∙ sym (signed_context-halves p n)

pub returns-clause-run : goal.returns-clause-run
returns-clause-run c b d e =
    let p = c.args.self.now in
    ap is_zero (whole_through c.args.half c.region.result c.requires.half_low c.requires.half_high c.region.ensures.region
    ∙ ap (λ z. z +ℤ c.region.result) e ∙ ap (λ z. half_context p b c.args.c d +ℤ z) c.region.ensures.value)
    ∙ whole-zero p c.args.a b c.args.c d c.region.ensures.legal
