use Rattle.std.proofs.Common.{◌≡◌, ◌++◌, true, replicate}
use Rattle.ls_stream.proofs.encode.coder.put_ones.Given as goal

abbrev pub invariant-loop-done : goal.invariant-loop-done
invariant-loop-done g l =
    (l.sink.bits ≡ l.fn.sink.bits ++ replicate l.done true) × (l.sink.front ≡ l.fn.sink.front) × (l.sink.capacity_left ≡ l.fn.sink.capacity_left)
    × g.R.Room.Grown l.fn.sink.room l.sink.room
