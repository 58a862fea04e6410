-- The sizes that films can be recorded with: how many threads, and how many frames wait at once.
use Rattle.std.specs.Prelude.{ℕ, ◌==◌, ◌||◌, nat_lt, if◌then◌else◌, Option, Some, None}
use Rattle.ls_queue.specs.Faults.{most_sources, most_capacity, most_workers}
use Rattle.ls_pieces.specs.Collecting.{most_window}
use Rattle.ls_recorder.specs.declared.faults.RecordFault.{RecordFault}
use Rattle.ls_recorder.specs.declared.faults.RecordFault.TheVariants.{Sources, Workers, Capacity, Window}

-- why a recording with these sizes can't begin: the first of these that applies
abbrev pub record_fault : ℕ → ℕ → ℕ → ℕ → Option RecordFault
record_fault sources workers capacity window =
    if sources == 0 || nat_lt most_sources sources then Some Sources
    else (if workers == 0 || nat_lt most_workers workers then Some Workers
    else (if capacity == 0 || nat_lt most_capacity capacity then Some Capacity
    else (if window == 0 || nat_lt most_window window then Some Window
    else None)))

-- why boxes with these sizes can't be made; they hold no jobs, so any capacity will do
abbrev pub box_fault : ℕ → ℕ → ℕ → Option RecordFault
box_fault sources workers window = record_fault sources workers 1 window
