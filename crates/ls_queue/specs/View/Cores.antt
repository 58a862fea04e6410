-- What is true of every `Core`.
use Rattle.std.specs.Prelude.{◌≡◌, ℕ, ◌+◌, ◌≤◌, List, [], ◌∷◌, length}
use Rattle.ls_queue.specs.Faults.{most_sources, most_capacity}
use Rattle.ls_queue.specs.Queue.{Queue, count_of, numbers_of}

-- numbers that rise by one, the last of which is one below `end`
abbrev pub AreLastBefore : ℕ → List ℕ → Type 0
AreLastBefore end [] = Unit {0}
AreLastBefore end (n ∷ ns) = (n + length (n ∷ ns) ≡ end) × AreLastBefore end ns

module _ {X : Type 0} where
  -- The numbers of sources and of jobs are within their limits, and the held jobs of each source have consecutive numbers up
  -- to its count less one. So a job's source is one of the queue's.
  pub record IsCore (q : Queue X) : Type 0 where
    pub some_source : 1 ≤ length q.counts
    pub few_sources : length q.counts ≤ most_sources
    pub lines : length q.closed ≡ length q.counts
    pub some_room : 1 ≤ q.capacity
    pub little_room : q.capacity ≤ most_capacity
    pub room : length q.held ≤ q.capacity
    pub consecutive : (s : ℕ) → AreLastBefore (count_of q s) (numbers_of s q.held)
