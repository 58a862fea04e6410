use Rattle.std.proofs.Common.{◌≡◌, ◌-◌, ◌≤◌, length, take}
use Rattle.std.specs.Io.KnownBytes.{Appends}
use Rattle.ls_frame.proofs.output.write_bytes.Given as goal

-- the bytes written so far
abbrev pub invariant-loop-written : goal.invariant-loop-written
invariant-loop-written g l = record {
  within : l.written ≤ length l.bytes;
  out : Appends (g.W.Write.contents l.fn.writer) (g.W.Write.contents l.writer) (take l.written l.bytes);
  failures : g.W.Outlet.failed_writes l.writer ≡ g.W.Outlet.failed_writes l.fn.writer;
}

abbrev pub decreases-loop-written : goal.decreases-loop-written
decreases-loop-written g l = length l.bytes - l.written
