use Rattle.std.proofs.Common.{◌+◌, ◌*◌, ◌^◌, ◌<◌, ◌≤◌, length, sym, subst, ap, ◌∙◌, arith}
use Rattle.std.proofs.lemmas.Nat.{mul-le}
use Rattle.ls_frame.specs.declared.frame.Form.{Form}
use Rattle.ls_frame.specs.Picture.{components}
use Rattle.ls_stream.specs.Layout.{codestream, headers_length, bound}
use Rattle.ls_stream.proofs.FrameLemmas.{few_components}
use Rattle.ls_stream.proofs.LengthLemmas.{within_bound, bound_small}
use Rattle.ls_stream.proofs.encode.picture_bound.Goals as goal

pub overflow_add-result : goal.overflow_add-result
overflow_add-result c =
    let few : c.from-count.result ≤ 3 = omega (arith, few_components c.form-2.result.kind) in
    let most : c.from-count.result * c.scan_bound.result ≤ 3 * 2 ^ 42 = mul-le c.from-count.result c.scan_bound.result 3 (2 ^ 42) few c.scan_bound.ensures.small in
    omega (arith, c.headers_length.ensures.small)

pub returns-clause-value : goal.returns-clause-value
unfolding bound
returns-clause-value c =
    ap (λ n. n + c.from-count.result * c.scan_bound.result) c.headers_length.ensures.value
    ∙ ap (λ n. headers_length c.args.picture.now c.args.presets.now + n * c.scan_bound.result) (c.from-count.ensures ∙ c.components.ensures ∙ ap (λ (form : Form). components form.kind) c.form-2.ensures.value)
    ∙ ap (λ n. headers_length c.args.picture.now c.args.presets.now + components c.args.picture.now.kind * n) c.scan_bound.ensures.value

pub returns-clause-enough : goal.returns-clause-enough
returns-clause-enough c frame =
    subst (λ n. length (codestream c.args.picture.now c.args.presets.now) ≤ n) (sym (returns-clause-value c))
    (within_bound c.args.picture.now c.args.presets.now frame c.maxval.ensures.legal c.requires.maxval)

pub returns-clause-small : goal.returns-clause-small
returns-clause-small c =
    subst (λ n. n < 2 ^ 32) (sym (returns-clause-value c)) (bound_small c.args.picture.now c.args.presets.now c.form.ensures.lawful.few c.maxval.ensures.legal)
