use Rattle.std.proofs.Common.{◌≡◌, ◌≤◌, ◌+◌, ◌*◌, ◌^◌, length}
use Rattle.ls_archive.specs.View.Batches.{AreTaken}
use Rattle.ls_archive.proofs.checking.batches.take.Given as goal

-- the lines so far were taken, with their bytes
abbrev pub invariant-loop-number : goal.invariant-loop-number
invariant-loop-number g l = record {
  taken : AreTaken
      (record { index = g.I.Read.remaining l.fn.index; recording = g.R.Read.remaining l.fn.recording; number = l.fn.so_far.number; offset = l.fn.so_far.offset })
      (record { index = g.I.Read.remaining l.index; recording = g.R.Read.remaining l.recording; number = l.number; offset = l.offset })
      l.jobs.items;
  len : l.fn.so_far.number + length l.jobs.items ≡ l.number;
  bounded : l.offset ≤ 2 ^ 32 * l.number;
  index_reads : g.I.Feed.failed_reads l.index ≡ g.I.Feed.failed_reads l.fn.index;
  reads : g.R.Feed.failed_reads l.recording ≡ g.R.Feed.failed_reads l.fn.recording;
}
