use Rattle.std.proofs.Common.{◌≡◌, ◌*◌, true, length, take}
use Rattle.ls_frame.specs.Canonical.{raster_bytes}
use Rattle.ls_frame.proofs.netpbm.written.put_wide.Given as goal

-- the bytes of the samples so far
abbrev pub invariant-loop-i : goal.invariant-loop-i
invariant-loop-i l = record {
  laid : take (2 * l.i) l.chunk ≡ raster_bytes true (take l.i l.samples);
  room : length l.chunk ≡ length l.fn.chunk;
}
