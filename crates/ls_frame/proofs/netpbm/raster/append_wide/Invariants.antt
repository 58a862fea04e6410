use Rattle.std.proofs.Common.{◌≡◌, ◌+◌, ◌*◌, ◌++◌, true, drop, vec_len, vec_capacity}
use Rattle.ls_frame.specs.View.Reading.{samples_of}
use Rattle.ls_frame.proofs.netpbm.raster.append_wide.Given as goal

abbrev pub invariant-loop-i : goal.invariant-loop-i
invariant-loop-i l = record {
  said : l.samples.items ++ samples_of true (drop (2 * l.i) l.bytes) ≡ l.fn.samples.items ++ samples_of true l.bytes;
  count : vec_len l.samples ≡ vec_len l.fn.samples + l.i;
  room : vec_capacity l.samples ≡ vec_capacity l.fn.samples;
}
