use Rattle.std.proofs.Common.{◌≡◌, ◌-◌, ◌≤◌, ◌++◌, true, false, length, take, IsSome, vec_capacity}
use Rattle.ls_frame.specs.View.Known.{known}
use Rattle.ls_frame.specs.View.Reading.{byte_count, are_within, with_front, samples_at}
use Rattle.ls_frame.proofs.netpbm.raster.read_samples.Given as goal

-- the samples so far, and those read from the bytes held and left, are the samples of the raster
abbrev pub invariant-chunks : goal.invariant-chunks
invariant-chunks g l =
    let remaining = g.R.Read.remaining in
    record {
      few : length l.samples.items ≤ l.count;
      room : l.count ≤ vec_capacity l.samples;
      held : l.held ≤ 1;
      narrow : l.wide ≡ false → l.held ≡ 0;
      last : l.count ≤ length l.samples.items → l.held ≡ 0;
      within : are_within l.maxval l.samples.items ≡ true;
      failures : g.R.Feed.failed_reads l.reader ≡ g.R.Feed.failed_reads l.fn.reader;
      said : IsSome (remaining l.fn.reader) → IsSome (remaining l.reader)
          × (samples_at l.wide l.maxval l.count (known (remaining l.fn.reader))
          ≡ with_front l.samples.items (samples_at l.wide l.maxval (l.count - length l.samples.items) (take l.held l.chunk ++ known (remaining l.reader))));
    }

abbrev pub decreases-chunks : goal.decreases-chunks
decreases-chunks g l = byte_count l.wide (l.count - length l.samples.items) - l.held
