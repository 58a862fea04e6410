use Rattle.std.proofs.Common.{◌≡◌, ℕ, ◌+◌, ◌<◌, true, length, vec_capacity}
use Rattle.ls_queue.specs.View.Running.{AreNewSources, AreEnds, has_end, sources_of}
use Rattle.ls_recorder.proofs.recording.threads.end_all.Given as goal

-- the first sources have ended; the seats of the others remain
abbrev pub invariant-loop-seats : goal.invariant-loop-seats
invariant-loop-seats g l = record {
  left : AreNewSources l.queue.channel (length l.ended.items) l.seats.items;
  ended : AreEnds l.queue l.ended.items;
  each : (s : ℕ) → s < length l.ended.items → has_end s l.ended.items ≡ true;
  sum : length l.ended.items + length l.seats.items ≡ sources_of l.queue;
  same : length l.fn.seats.items ≡ sources_of l.queue;
  capacity : vec_capacity l.ended ≡ vec_capacity l.fn.ended;
}

abbrev pub decreases-loop-seats : goal.decreases-loop-seats
decreases-loop-seats g l = length l.seats.items
