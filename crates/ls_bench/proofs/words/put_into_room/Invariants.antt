use Rattle.std.proofs.Common.{◌*◌, ◌+◌, ◌/◌, ◌≤◌, length}
use Rattle.ls_bench.proofs.words.put_into_room.Given as goal

-- A word has at most 32 bits, and there is room for 32 bits of each event.
abbrev pub invariant-loop-event : goal.invariant-loop-event
invariant-loop-event l = (length l.sink.bits ≤ 32 * l.event-index) × (length l.events * 32 / 7 + 1 ≤ l.sink.capacity_left)
