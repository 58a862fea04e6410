use Rattle.std.proofs.Common.{◌≡◌, length, take}
use Rattle.ls_frame.proofs.netpbm.written.put_narrow.Given as goal

-- the samples so far
abbrev pub invariant-loop-i : goal.invariant-loop-i
invariant-loop-i l = record {
  laid : take l.i l.chunk ≡ take l.i l.samples;
  room : length l.chunk ≡ length l.fn.chunk;
}
