use Rattle.std.proofs.Common.{◌≡◌, ◌-◌, ◌+◌, ◌≤◌, length}
use Rattle.ls_frame.specs.View.Chunks.{left_in, inner_reader}
use Rattle.ls_salvage.specs.View.Ends.{most_place}
use Rattle.ls_salvage.specs.View.Skipping.{held}
use Rattle.ls_salvage.proofs.SkipLemmas.{HasGivenPassed}
use Rattle.ls_salvage.proofs.starts.skip_to_start.Given as goal

-- the bytes so far were passed over, except those that are matched
abbrev pub invariant-steps : goal.invariant-steps
invariant-steps g l = record {
  failures : g.R.Feed.failed_reads (inner_reader l.reader) ≡ g.R.Feed.failed_reads (inner_reader l.fn.reader);
  few : length (held l.matched) ≤ l.count;
  small : l.count ≤ most_place + 65536;
  passed : HasGivenPassed l.matched l.count (left_in g.R.Read.remaining l.fn.reader) (left_in g.R.Read.remaining l.reader);
}

abbrev pub decreases-steps : goal.decreases-steps
decreases-steps g l = most_place - l.count
