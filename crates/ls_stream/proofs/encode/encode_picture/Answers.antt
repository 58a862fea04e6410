use Rattle.std.proofs.Common.{◌++◌, length, ap, ◌∙◌, arith}
use Rattle.ls_stream.specs.Layout.{codestream}
use Rattle.ls_stream.proofs.encode.encode_picture.Goals as goal

pub returns-then-put_codestream-clause-short : goal.returns-then-put_codestream-clause-short
returns-then-put_codestream-clause-short c =
    omega (
      arith,
      ap length (c.put_codestream.ensures.bytes c.if-put_codestream.true ∙ ap (λ bytes. bytes ++ codestream c.args.picture.now c.args.presets.now) c.in_ok-bytes.ensures.items),
      c.picture_bound-capacity.ensures.enough (c.put_codestream.ensures.within c.if-put_codestream.true),
      c.picture_bound-capacity.ensures.small,
    )
