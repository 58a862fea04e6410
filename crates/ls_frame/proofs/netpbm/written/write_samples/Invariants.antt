use Rattle.std.proofs.Common.{◌≡◌, ◌+◌, ◌-◌, ◌≤◌, length, take}
use Rattle.std.specs.Io.KnownBytes.{Appends}
use Rattle.ls_frame.specs.Canonical.{raster_bytes}
use Rattle.ls_frame.proofs.netpbm.written.write_samples.Given as goal

-- the samples so far were written
abbrev pub invariant-chunks : goal.invariant-chunks
invariant-chunks g l = record {
  within : l.done ≤ length l.samples;
  out : Appends (g.W.Write.contents l.fn.writer) (g.W.Write.contents l.writer) (raster_bytes l.wide (take l.done l.samples));
  count : l.written ≡ l.before + length (raster_bytes l.wide (take l.done l.samples));
  failures : g.W.Outlet.failed_writes l.writer ≡ g.W.Outlet.failed_writes l.fn.writer;
}

abbrev pub decreases-chunks : goal.decreases-chunks
decreases-chunks g l = length l.samples - l.done
