use Rattle.std.proofs.Common.{◌≡◌, ◌+◌, ◌++◌, take, vec_len, vec_capacity}
use Rattle.ls_frame.proofs.netpbm.raster.append_narrow.Given as goal

-- the samples so far
abbrev pub invariant-loop-byte : goal.invariant-loop-byte
invariant-loop-byte l = record {
  said : l.samples.items ≡ l.fn.samples.items ++ take l.byte-index l.bytes;
  count : vec_len l.samples ≡ vec_len l.fn.samples + l.byte-index;
  room : vec_capacity l.samples ≡ vec_capacity l.fn.samples;
}
