-- Why a queue can't be made, or its steps can't be replayed: the first fault, in the order in which they are checked.
use Rattle.std.specs.Prelude.{ℕ, ◌||◌, not, List, Option, Some, None, if◌then◌else◌, ◌==◌, nat_lt, position, option_map}
use Rattle.ls_queue.specs.declared.steps.Step.{Step}
use Rattle.ls_queue.specs.declared.faults.QueueFault.{QueueFault}
use Rattle.ls_queue.specs.declared.faults.QueueFault.TheVariants.{Sources, Capacity, Workers, NoSource}
use Rattle.ls_queue.specs.Steps.{is_known}

-- the most sources of a queue, the most jobs that it may hold, and the most workers of a running one
abbrev pub most_sources : ℕ
most_sources = 16

abbrev pub most_capacity : ℕ
most_capacity = 256

abbrev pub most_workers : ℕ
most_workers = 16

-- a queue has 1 to 16 sources and, checked after that, a capacity of 1 to 256
abbrev pub range_fault : ℕ → ℕ → Option QueueFault
range_fault sources capacity =
    (if sources == 0 || nat_lt most_sources sources then Some Sources else (if capacity == 0 || nat_lt most_capacity capacity then Some Capacity else None))

-- a running queue also has 1 to 16 workers
abbrev pub worker_fault : Option QueueFault → ℕ → Option QueueFault
worker_fault (Some fault) workers = Some fault
worker_fault None workers = (if workers == 0 || nat_lt most_workers workers then Some Workers else None)

abbrev pub open_fault : ℕ → ℕ → ℕ → Option QueueFault
open_fault sources workers capacity = worker_fault (range_fault sources capacity) workers

-- a fault of the numbers, else the first step, counted from 0, that names a source which the queue doesn't have
abbrev pub first_of : Option QueueFault → Option ℕ → Option QueueFault
first_of (Some fault) number = Some fault
first_of None number = option_map NoSource number

abbrev pub replay_fault : ℕ → ℕ → List Step → Option QueueFault
replay_fault sources capacity steps = first_of (range_fault sources capacity) (position (λ step. not (is_known sources step)) steps)
