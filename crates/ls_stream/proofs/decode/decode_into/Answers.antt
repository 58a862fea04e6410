use Rattle.std.proofs.Common.{ap, ◌∙◌, arith}
use Rattle.ls_frame.specs.Picture.{picture_of}
use Rattle.ls_stream.specs.View.Openings.{opened_form}
use Rattle.ls_stream.proofs.FrameReadingLemmas.{written_back}
use Rattle.ls_stream.proofs.decode.decode_into.Goals as goal

-- the frame is that of the samples that were decoded
pub returns-in-Ok-clause-complete : goal.returns-in-Ok-clause-complete
returns-in-Ok-clause-complete c front rest f e spelled =
    let found = c.in-Ok.ensures.complete front rest f e spelled in
    let same = c.frame_of.ensures ∙ ap (λ samples. picture_of (opened_form c.args.opening.now) samples)
    (written_back c.args.samples.len c.decode.new.samples c.args.samples.items (omega (arith, c.decode.auto.samples, c.deref_mut.ensures.len))) in
    (same ∙ found.0, found.1)

pub returns-in-Err-clause-none : goal.returns-in-Err-clause-none
returns-in-Err-clause-none c = λ front rest f e spelled. c.in-Err.ensures.complete front rest f e spelled
