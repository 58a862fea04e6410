use Rattle.std.proofs.Common.{◌+◌, ◌≤◌, length, vec_len, vec_capacity, subst, arith}
use Rattle.ls_frame.specs.View.Reading.{samples_of}
use Rattle.ls_frame.proofs.RasterLemmas.{length-samples_of}
use Rattle.ls_frame.proofs.netpbm.raster.take_samples.Goals as goal

pub append_narrow-requires : goal.append_narrow-requires
unfolding samples_of
append_narrow-requires c =
    let samples = c.args.samples.now in
    subst (λ wide. vec_len samples + length (samples_of wide c.args.bytes.now) ≤ vec_capacity samples) c.if-wide.false c.requires

pub append_wide-requires : goal.append_wide-requires
append_wide-requires c =
    let samples = c.args.samples.now in
    let room = subst (λ wide. vec_len samples + length (samples_of wide c.args.bytes.now) ≤ vec_capacity samples) c.if-wide.true c.requires in
    omega (arith, room, length-samples_of c.args.bytes.now)
