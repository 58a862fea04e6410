use Rattle.std.proofs.Common.{[], sym, ◌∙◌, append-nil}
use Rattle.ls_stream.specs.Layout.{codestream}
use Rattle.ls_stream.proofs.SpellingLemmas.{spells}
use Rattle.ls_stream.proofs.laws.decoding_gives_what_was_encoded.Goals as goal

pub returns : goal.returns
returns c =
    let f = c.args.frame.now in
    let p = c.args.presets.now in
    c.decode_frame.ensures.complete (codestream f p) [] f (c.deref.ensures.value ∙ c.in_ok-bytes.ensures.bytes ∙ sym (append-nil (codestream f p)))
    (spells c.parameters_are_legal_or_at_fault.ensures.none f p c.maxval-2.ensures.lawful c.maxval.ensures.legal c.requires.maxval)
