use Rattle.std.proofs.Common.{◌≡◌, ◌≤◌, ◌+◌, ◌-◌, ◌++◌, ℕ, length, true}
use Rattle.std.specs.Prelude.{◌⊎◌}
use Rattle.std.specs.List.{AllByRecursion}
use Rattle.crossbeam_channel.specs.Claims.{view, IsSeatAt}
use Rattle.crossbeam_channel.specs.Ends.{sends_on}
use Rattle.ls_queue.specs.View.Account.{ending_view, IsCounted}
use Rattle.ls_queue.specs.View.Running.{IsEndedAt, has_end, parts_of}
use Rattle.ls_queue.proofs.running.join_ends.Given as goal

-- the passes so far are joined and their sources counted; the others remain
abbrev pub invariant-loop-ended : goal.invariant-loop-ended
invariant-loop-ended g l = record {
  pass : IsSeatAt (sends_on l.channel.sender) l.pass;
  left : AllByRecursion (IsEndedAt l.channel) l.ended.items;
  known : view l.pass ≡ ending_view (64 - l.channel.sources - l.channel.workers + (length l.fn.ended.items - length l.ended.items)) (view l.pass).puts l.channel.sources l.channel.workers 0;
  fewer : length l.ended.items ≤ length l.fn.ended.items;
  parts : (view l.pass).puts ++ parts_of l.ended.items ≡ parts_of l.fn.ended.items;
  size : length l.counts ≡ 16;
  counted : (s : ℕ) → has_end s l.fn.ended.items ≡ true → (has_end s l.ended.items ≡ true) ⊎ IsCounted l.counts (view l.pass).puts s;
}

abbrev pub decreases-loop-ended : goal.decreases-loop-ended
decreases-loop-ended g l = length l.ended.items
