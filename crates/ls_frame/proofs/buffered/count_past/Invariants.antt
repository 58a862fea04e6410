use Rattle.std.proofs.Common.{length, ◌-◌, ◌≤◌}
use Rattle.ls_frame.proofs.MarkLemmas.{PassedBefore}
use Rattle.ls_frame.proofs.buffered.count_past.Given as goal

abbrev pub invariant-loop-place : goal.invariant-loop-place
invariant-loop-place l = (l.count ≤ length l.bytes) × PassedBefore l.mark l.limit l.bytes l.count

abbrev pub decreases-loop-place : goal.decreases-loop-place
decreases-loop-place l = length l.bytes - l.count
