use Rattle.std.proofs.Common.{◌≡◌, length, take, sym, ◌∙◌, arith}
use Rattle.std.proofs.lemmas.List.{take_all}
use Rattle.ls_frame.proofs.ChunkLemmas.{raster_bytes-narrow}
use Rattle.ls_frame.proofs.netpbm.written.put_narrow.Goals as goal

pub returns : goal.returns
returns c =
    let samples = c.args.samples.now in
    let all : c.loop-i.i ≡ length samples = omega arith in
    let laid : take (length samples) c.loop-i.chunk ≡ take (length samples) samples = rw all at c.loop-i.invariant.laid in
    laid ∙ take_all (length samples) samples (omega arith) ∙ sym (raster_bytes-narrow samples)
