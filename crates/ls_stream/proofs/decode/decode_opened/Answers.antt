use Rattle.std.proofs.Common.{◌≡◌, ◌*◌, length, get_or, Fits, w8, refl, arith}
use Rattle.ls_frame.specs.Picture.{IsFrame, components}
use Rattle.ls_stream.specs.Components.{arranged}
use Rattle.ls_stream.specs.View.Outlines.{at_scans}
use Rattle.ls_stream.specs.View.Decoding.{picture}
use Rattle.ls_stream.proofs.ArrangedLemmas.{arranged_length, arranged_small}
use Rattle.ls_stream.proofs.FrameReadingLemmas.{IsPutTogether, frame_outlined, frame_has_outline, no_frame, only_frame, outlined, left_short, are_bytes, opening_ids, is_frame}
use Rattle.ls_stream.proofs.decode.decode_opened.Given.{Over}
use Rattle.ls_stream.proofs.decode.decode_opened.Goals as goal

pub decode_scans-requires-clause-ids : goal.decode_scans-requires-clause-ids
decode_scans-requires-clause-ids g c =
    opening_ids c.args.bytes.now c.args.opening.0 c.args.opening.1 c.args.opening.2.now
    (are_bytes c.args.bytes.now (λ i. let fits : Fits w8 (get_or c.args.bytes.now i 0) = c.type_inv.bytes i in omega arith)) c.requires.opening

pub overflow_sub-result : goal.overflow_sub-result
overflow_sub-result g c =
    let scans = c.in-Ok.ensures.scans in
    left_short c.args.bytes.now c.in-Ok.left.now _
    (are_bytes c.args.bytes.now (λ i. let fits : Fits w8 (get_or c.args.bytes.now i 0) = c.type_inv.bytes i in omega arith))
    (outlined c.args.bytes.now c.args.opening.0 c.args.opening.1 c.args.opening.2.now c.in-Ok.left.now scans.0 c.requires.opening scans.1)

-- the samples make a frame
frame_is : (g : Over) (c : goal.In-Ok g) → IsFrame (picture c.args.opening.0 c.args.opening.1.maxval (arranged c.args.arrangement (components c.args.opening.0.kind) (g.S.Sample.numbers c.decode_scans.new.samples)))
frame_is g c =
    let header = c.args.opening.0 in
    let new = g.S.Sample.numbers c.decode_scans.new.samples in
    let samples = arranged c.args.arrangement (components header.kind) new in
    let count : length samples ≡ header.height * header.width * components header.kind = omega (arith, arranged_length c.args.arrangement (components header.kind) new, c.decode_scans.ensures.len, c.requires.samples) in
    is_frame header c.args.opening.1 samples c.requires.some_width (omega arith) c.requires.some_height (omega arith) c.maxval.ensures.legal c.requires.few count
    (arranged_small c.args.arrangement (components header.kind) c.args.opening.1.maxval new c.decode_scans.ensures.small)

-- what was read of the codestream, and the frame that it makes
put_together : (g : Over) (c : goal.In-Ok g) → IsPutTogether c.args.bytes.now (picture c.args.opening.0 c.args.opening.1.maxval (arranged c.args.arrangement (components c.args.opening.0.kind) (g.S.Sample.numbers c.decode_scans.new.samples))) c.args.opening.0 c.args.opening.1 c.args.opening.2.now c.in-Ok.left.now
put_together g c = record {
  opening = c.requires.opening;
  kind = refl;
  width = refl;
  height = refl;
  maxval = refl;
  scans = c.in-Ok.ensures.scans.0;
  scans_are = c.in-Ok.ensures.scans.1;
  are = c.in-Ok.ensures.scans.2;
}

pub returns-in-Ok-clause-ok : goal.returns-in-Ok-clause-ok
returns-in-Ok-clause-ok g c =
    let f = picture c.args.opening.0 c.args.opening.1.maxval (arranged c.args.arrangement (components c.args.opening.0.kind) (g.S.Sample.numbers c.decode_scans.new.samples)) in
    let e = frame_outlined c.args.bytes.now f c.args.opening.0 c.args.opening.1 c.args.opening.2.now c.in-Ok.left.now (put_together g c) in
    let short = left_short c.args.bytes.now c.in-Ok.left.now _
    (are_bytes c.args.bytes.now (λ i. let fits : Fits w8 (get_or c.args.bytes.now i 0) = c.type_inv.bytes i in omega arith)) e in
    (_, c.in-Ok.left.now, e, frame_is g c, frame_has_outline c.args.bytes.now f c.args.opening.0 c.args.opening.1 c.args.opening.2.now c.in-Ok.left.now (put_together g c), omega (arith, short))

pub returns-in-Ok-clause-only : goal.returns-in-Ok-clause-only
returns-in-Ok-clause-only g c =
    only_frame c.args.bytes.now (picture c.args.opening.0 c.args.opening.1.maxval (arranged c.args.arrangement (components c.args.opening.0.kind) (g.S.Sample.numbers c.decode_scans.new.samples))) c.args.opening.0 c.args.opening.1 c.args.opening.2.now c.in-Ok.left.now (put_together g c) (frame_is g c)

pub returns-in-Err-clause-none : goal.returns-in-Err-clause-none
returns-in-Err-clause-none g c =
    no_frame c.args.bytes.now c.args.opening.0 c.args.opening.1 c.args.opening.2.now c.requires.opening c.in-Err.ensures.none

pub returns-in-Err-clause-stops : goal.returns-in-Err-clause-stops
returns-in-Err-clause-stops g c = at_scans c.args.opening.0 c.args.opening.1 c.args.opening.2.now c.requires.opening c.in-Err.ensures.stops
