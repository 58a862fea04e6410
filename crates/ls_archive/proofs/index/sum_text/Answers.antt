use Rattle.std.proofs.Common.{◌≡◌, length, string_bytes, ap, ◌∙◌, arith}
use Rattle.std.proofs.lemmas.Result.{IfOk-weaker}
use Rattle.hex.specs.Hex.{encode_lower, lower_digits}
use Rattle.hex.proofs.HexLemmas.{length-encode_with}
use Rattle.sha2.proofs.Facts256.{length-sha256}
use Rattle.ls_archive.specs.Index.{sum_text}
use Rattle.ls_archive.proofs.index.sum_text.Goals as goal

pub returns-clause-text : goal.returns-clause-text
unfolding sum_text
returns-clause-text c =
    IfOk-weaker c.encode.result (λ text. string_bytes text ≡ encode_lower c.as_slice.result.now) _
    (λ text is. is ∙ ap encode_lower (c.as_slice.ensures ∙ c.digest-sum.ensures)) c.encode.ensures

pub returns-clause-short : goal.returns-clause-short
returns-clause-short c =
    IfOk-weaker c.encode.result (λ text. string_bytes text ≡ encode_lower c.as_slice.result.now) _
    (λ text is.
    let digits = length-encode_with lower_digits c.as_slice.result.now in
    let bytes = ap length (c.as_slice.ensures ∙ c.digest-sum.ensures) ∙ length-sha256 c.args.bytes.now in
    omega (arith, ap length is, digits, bytes)) c.encode.ensures
