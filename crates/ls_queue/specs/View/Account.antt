-- The account of a running queue: what is true between any two steps of its channel, whichever threads hold the seats. First the terms, then the
-- rule, then the kinds of step in the order of a queue's life, and last what follows from the rule.
use Rattle.std.specs.Prelude.{◌≡◌, ℕ, suc, ◌+◌, ◌-◌, ◌<◌, ◌≤◌, ◌==◌, ◌&&◌, Bool, true, false, ◌⊎◌, if◌then◌else◌, List, [], ◌∷◌, ◌++◌, length, map, filter, Some, slice_get, slice_index_or}
use Rattle.std.specs.List.{sum_by}
use Rattle.std.specs.List.{AllByRecursion}
use mathlib.Core.Option.{some}
use lib.ListN.{get_elem?}
use Rattle.ls_queue.specs.declared.replies.Job.{Job}
use Rattle.ls_queue.specs.declared.views.Message.{Message}
use Rattle.ls_queue.specs.declared.views.Message.TheVariants as message
use Rattle.ls_queue.specs.declared.views.Puts.{Puts}
use Rattle.ls_queue.specs.declared.views.Takes.{Takes}
use Rattle.ls_queue.specs.declared.views.View.{View}
use Rattle.ls_queue.specs.Queue.{numbers_of}

module _ {X : Type 0} where
  abbrev pub job : ℕ → ℕ → X → Job X
  job s n x = record { source = s; number = n; item = x }

  -- the items of source s as its jobs, numbered from n on
  abbrev pub numbered : ℕ → ℕ → List X → List (Job X)
  numbered s n [] = []
  numbered s n (x ∷ xs) = job s n x ∷ numbered s (suc n) xs

  abbrev pub jobs_of : ℕ → List (Job X) → List (Job X)
  jobs_of s jobs = filter (λ (j : Job X). j.source == s) jobs

  -- the jobs among messages, and the number of end marks
  abbrev pub jobs_in : List (Message X) → List (Job X)
  jobs_in [] = []
  jobs_in (message.Job j ∷ ms) = j ∷ jobs_in ms
  jobs_in (message.Mark c ∷ ms) = jobs_in ms

  abbrev pub marks_in : List (Message X) → ℕ
  marks_in [] = 0
  marks_in (message.Job j ∷ ms) = marks_in ms
  marks_in (message.Mark c ∷ ms) = suc (marks_in ms)

  -- the first list is a subsequence of the second: the second with some left out
  abbrev pub IsWithin : List (Job X) → List (Job X) → Type 0
  IsWithin [] ys = Unit {0}
  IsWithin (x ∷ xs) [] = ⊥
  IsWithin (x ∷ xs) (y ∷ ys) = ((x ≡ y) × IsWithin xs ys) ⊎ IsWithin (x ∷ xs) ys

  -- The total weight of the jobs that a view put, and of those that it took, for any function that weighs jobs; and the number of end marks it
  -- took. If two totals are equal for every such function, each job occurs equally often on both sides.
  abbrev pub weight_put : (Job X → ℕ) → View X → ℕ
  weight_put h v = sum_by (λ (u : Puts X). sum_by h (numbered u.source 0 u.items)) v.puts

  abbrev pub weight_taken : (Job X → ℕ) → View X → ℕ
  weight_taken h v = sum_by (λ (u : Takes X). sum_by h u.jobs) v.takes

  abbrev pub marks_taken : View X → ℕ
  marks_taken v = sum_by (λ (u : Takes X). if u.marked then 1 else 0) v.takes

-- All that has happened so far. The rule says that such a past exists; no thread knows all of it.
pub record Past (X : Type 0) : Type 0 where
  -- all jobs ever sent, and the counts of all marks, which were sent after them; each in order
  pub jobs : List (Job X)
  pub marks : List (List ℕ)
  -- the messages received so far, in order
  pub received : List (Message X)
  -- passes are numbered: the number of the closer's pass, and for each source that of the pass with its items
  pub closer : ℕ
  pub keeper : ℕ → ℕ
  -- the numbers of seats made
  pub sources : ℕ
  pub workers : ℕ

module _ {X : Type 0} where
  abbrev pub IsEmpty : View X → Type 0
  IsEmpty v = (v.puts ≡ []) × (v.takes ≡ []) × (v.closes ≡ false)

  -- the items of a source are kept in one pass, and its jobs are these items, numbered from 0
  pub record FitsPuts (past : Past X) (pass : ℕ) (u : Puts X) : Type 0 where
    pub kept : past.keeper u.source ≡ pass
    pub known : u.source < past.sources
    pub sent : jobs_of u.source past.jobs ≡ numbered u.source 0 u.items

  -- a worker seat took its jobs in the order in which they were received
  abbrev pub FitsTakes : Past X → Takes X → Type 0
  FitsTakes past u = IsWithin u.jobs (jobs_in past.received)

  -- what a view says is true of the past
  pub record Fits (past : Past X) (pass : ℕ) (v : View X) : Type 0 where
    pub idle : v.shares ≡ 0 → IsEmpty v
    pub puts : AllByRecursion (FitsPuts past pass) v.puts
    pub takes : AllByRecursion (FitsTakes past) v.takes
    pub worker : (v.takes ≡ []) ⊎ ((v.sources ≡ past.sources) × (0 < past.workers))
    pub closer : v.closes ≡ true → (pass ≡ past.closer) × (v.sources ≡ past.sources) × (v.workers ≡ past.workers) × (v.marks ≡ length past.marks)
    pub ended : 0 < length past.marks → v.closes ≡ false → v.puts ≡ []

  -- a mark has the number of jobs of each source
  abbrev pub Counts : ℕ → List (Job X) → List ℕ → Type 0
  Counts sources jobs counts = (s : ℕ) → s < sources → slice_index_or counts s 0 ≡ length (jobs_of s jobs)

  -- The rule: it ties what the channel holds to the views of all passes.
  pub record Kept (items : List (Message X)) (views : List (View X)) : Type 0 where
    pub past : Past X
    -- what was received, followed by what the channel holds, is all jobs followed by all marks
    pub whole : past.received ++ items ≡ map message.Job past.jobs ++ map message.Mark past.marks
    pub shares : sum_by (λ (v : View X). v.shares) views ≡ 64
    -- what the source seats put, each source's items numbered from 0, is all jobs
    pub put : (h : Job X → ℕ) → sum_by (weight_put h) views ≡ sum_by h past.jobs
    -- what the worker seats took is what was received
    pub taken : (h : Job X → ℕ) → sum_by (weight_taken h) views ≡ sum_by h (jobs_in past.received)
    pub marked : sum_by marks_taken views ≡ marks_in past.received
    pub known : AllByRecursion (λ (j : Job X). j.source < past.sources) past.jobs
    pub counts : AllByRecursion (Counts past.sources past.jobs) past.marks
    pub fits : (pass : ℕ) (v : View X) → get_elem? views pass ≡ some v → Fits past pass v

  -- The kinds of step, each with the views that it changes. At first there is one pass, the closer's, with all shares.
  abbrev pub first_view : View X
  first_view = record { shares = 64; puts = []; takes = []; closes = true; sources = 0; workers = 0; marks = 0 }

  -- A pass is made: a source seat's or a worker seat's, to which the closer gives one of its shares. These are the views of the two seats until
  -- they are joined to the closer's pass, and the closer's view while it makes seats.
  abbrev pub source_view : ℕ → List X → View X
  source_view s xs = record { shares = 1; puts = record { source = s; items = xs } ∷ []; takes = []; closes = false; sources = 0; workers = 0; marks = 0 }

  abbrev pub worker_view : ℕ → List (Job X) → Bool → View X
  worker_view sources jobs marked =
      record { shares = 1; puts = []; takes = record { jobs = jobs; marked = marked } ∷ []; closes = false; sources = sources; workers = 0; marks = 0 }

  abbrev pub closer_view : ℕ → ℕ → ℕ → View X
  closer_view shares sources workers =
      record { shares = shares; puts = []; takes = []; closes = true; sources = sources; workers = workers; marks = 0 }

  abbrev pub source_made : View X → View X
  source_made v = record v { shares = v.shares - 1; sources = v.sources + 1 }

  abbrev pub worker_made : View X → View X
  worker_made v = record v { shares = v.shares - 1; workers = v.workers + 1 }

  -- A job is sent: the source seat has one item more.
  abbrev pub grown : List (Puts X) → X → List (Puts X)
  grown [] x = []
  grown (u ∷ us) x = record u { items = u.items ++ x ∷ [] } ∷ us

  abbrev pub after_put : View X → Message X → View X
  after_put v (message.Job j) = record v { puts = grown v.puts j.item }
  after_put v (message.Mark c) = v

  -- A job is received: the worker seat has one job more.
  abbrev pub with_job : List (Takes X) → Job X → List (Takes X)
  with_job [] j = []
  with_job (u ∷ us) j = record u { jobs = u.jobs ++ j ∷ [] } ∷ us

  -- A mark is sent: the closer, which by then has the items of the sources that have ended, has sent one mark more. The mark's counts are the
  -- numbers of items that the sources put.
  abbrev pub ending_view : ℕ → List (Puts X) → ℕ → ℕ → ℕ → View X
  ending_view shares puts sources workers marks =
      record { shares = shares; puts = puts; takes = []; closes = true; sources = sources; workers = workers; marks = marks }

  -- source s is among the sources of a view, and its count is the number of items it put
  abbrev pub IsCounted : List ℕ → List (Puts X) → ℕ → Type 0
  IsCounted counts [] s = ⊥
  IsCounted counts (u ∷ us) s = ((u.source ≡ s) × (slice_index_or counts s 0 ≡ length u.items)) ⊎ IsCounted counts us s

  abbrev pub with_marks : View X → ℕ → View X
  with_marks v n = record v { marks = n }

  abbrev pub after_mark : View X → View X
  after_mark v = with_marks v (v.marks + 1)

  -- A mark is received: the worker seat has taken a mark. The message received decides whether this step or that of a job was made.
  abbrev pub with_mark : List (Takes X) → List (Takes X)
  with_mark [] = []
  with_mark (u ∷ us) = record u { marked = true } ∷ us

  abbrev pub AfterTake : View X → Message X → View X → Type 0
  AfterTake v (message.Job j) w = (w ≡ record v { takes = with_job v.takes j }) × (j.source < v.sources)
  AfterTake v (message.Mark c) w = w ≡ record v { takes = with_mark v.takes }

  -- A send finds no room, or a receive finds nothing: no view changes.

  -- The last remaining pass is read. Its holder then knows: the channel is empty; in the order in which all jobs were sent, the jobs of each
  -- source are its items, numbered from 0, and there are no others; the worker seats took these jobs (for every weight the totals are equal),
  -- each seat in that order.
  pub record IsSettled (v : View X) (items : List (Message X)) : Type 0 where
    pub empty : items ≡ []
    pub order : List (Job X)
    pub taken : (h : Job X → ℕ) → weight_taken h v ≡ sum_by h order
    pub within : AllByRecursion (λ (u : Takes X). IsWithin u.jobs order) v.takes
    pub each : AllByRecursion (λ (u : Puts X). jobs_of u.source order ≡ numbered u.source 0 u.items) v.puts
    pub no_others : AllByRecursion (λ (j : Job X). j.source < v.sources) order

  -- Two passes are joined: one takes over the shares of the other and its puts and takes, each as a list entry of its own; the other is spent.
  abbrev pub joined : View X → View X → View X
  joined v w = record v { shares = v.shares + w.shares; puts = v.puts ++ w.puts; takes = v.takes ++ w.takes }

  abbrev pub spent_view : View X
  spent_view = record { shares = 0; puts = []; takes = []; closes = false; sources = 0; workers = 0; marks = 0 }

  -- the closer's view after the passes of worker seats that took these are joined to it
  abbrev pub with_takes : View X → List (Takes X) → View X
  with_takes v us = record v { shares = v.shares + length us; takes = v.takes ++ us }

-- What follows from the rule, whatever the threads do.

abbrev pub IsBelowAll : ℕ → List ℕ → Type 0
IsBelowAll n ms = AllByRecursion (λ m. n < m) ms

abbrev pub AreRising : List ℕ → Type 0
AreRising [] = Unit {0}
AreRising (n ∷ ns) = IsBelowAll n ns × AreRising ns

module _ {X : Type 0} where
  -- the weight of a job if it is number n of source s, else 0; and the same with 1 as its weight
  abbrev pub weight_at : ℕ → ℕ → (Job X → ℕ) → Job X → ℕ
  weight_at s n h j = if j.source == s && j.number == n then h j else 0

  abbrev pub is_job : ℕ → ℕ → Job X → ℕ
  is_job s n j = weight_at s n (λ _. 1) j

  -- how often number n of source s was taken, by any seats, and how often it is in the channel
  abbrev pub times_taken : ℕ → ℕ → List (View X) → ℕ
  times_taken s n views = sum_by (weight_taken (is_job s n)) views

  abbrev pub times_held : ℕ → ℕ → List (Message X) → ℕ
  times_held s n items = sum_by (is_job s n) (jobs_in items)

  -- each item that a seat put is one job, which was taken once or is in the channel once
  abbrev pub EachOnce : List (Message X) → List (View X) → Type 0
  EachOnce items views = (pass : ℕ) (v : View X) → get_elem? views pass ≡ some v
      → AllByRecursion (λ (u : Puts X). (n : ℕ) → n < length u.items → times_taken u.source n views + times_held u.source n items ≡ 1) v.puts

  -- the job with number n of source s, taken or in the channel, has the item with index n, from 0, that the seat of s put
  abbrev pub EachItem : List (Message X) → List (View X) → Type 0
  EachItem items views = (pass : ℕ) (v : View X) → get_elem? views pass ≡ some v
      → AllByRecursion (λ (u : Puts X). (n : ℕ) (x : X) → slice_get u.items n ≡ Some x → (h : Job X → ℕ)
      → sum_by (weight_taken (weight_at u.source n h)) views + sum_by (weight_at u.source n h) (jobs_in items) ≡ h (job u.source n x)) v.puts

  -- the jobs taken and those in the channel are the jobs of the items that were put, and there are no others
  abbrev pub NoOthers : List (Message X) → List (View X) → Type 0
  NoOthers items views = (h : Job X → ℕ) → sum_by (weight_taken h) views + sum_by h (jobs_in items) ≡ sum_by (weight_put h) views

  -- the numbers of one source rise along the channel and along what each worker seat took; and each number taken is below all numbers of that
  -- source in the channel
  pub record NumbersRise (s : ℕ) (items : List (Message X)) (views : List (View X)) : Type 0 where
    pub channel : AreRising (numbers_of s (jobs_in items))
    pub workers : (pass : ℕ) (v : View X) → get_elem? views pass ≡ some v → AllByRecursion (λ (t : Takes X). AreRising (numbers_of s t.jobs)) v.takes
    pub below : (pass : ℕ) (v : View X) → get_elem? views pass ≡ some v
        → AllByRecursion (λ (t : Takes X). AllByRecursion (λ n. IsBelowAll n (numbers_of s (jobs_in items))) (numbers_of s t.jobs)) v.takes

  abbrev pub EachRises : List (Message X) → List (View X) → Type 0
  EachRises items views = (pass : ℕ) (v : View X) → get_elem? views pass ≡ some v → AllByRecursion (λ (u : Puts X). NumbersRise u.source items views) v.puts

  -- The end marks taken and those in the channel are together those that were sent. In the channel all jobs come before the marks, and there are
  -- no jobs once a mark was taken. Each mark carries the number of items that each source put.
  pub record MarksAreLast (items : List (Message X)) (views : List (View X)) : Type 0 where
    pub gone : List (List ℕ)
    pub jobs : List (Job X)
    pub marks : List (List ℕ)
    pub behind : items ≡ map message.Job jobs ++ map message.Mark marks
    pub taken : sum_by marks_taken views ≡ length gone
    pub sent : (pass : ℕ) (v : View X) → get_elem? views pass ≡ some v → v.closes ≡ true → length (gone ++ marks) ≡ v.marks
    pub counts : (pass : ℕ) (v : View X) → get_elem? views pass ≡ some v
        → AllByRecursion (λ (u : Puts X). AllByRecursion (λ c. slice_index_or c u.source 0 ≡ length u.items) (gone ++ marks)) v.puts
    pub done : 0 < length gone → jobs ≡ []

  -- once some worker seat has taken a mark, each item that was put was taken, once
  abbrev pub AllIsTaken : List (View X) → Type 0
  AllIsTaken views = 0 < sum_by marks_taken views → (pass : ℕ) (v : View X) → get_elem? views pass ≡ some v
      → AllByRecursion (λ (u : Puts X). (n : ℕ) → n < length u.items → times_taken u.source n views ≡ 1) v.puts

  -- a pass with all 64 shares, joined with at least as many worker seats as end marks were sent, each with its mark: it is the last one
  pub record HoldsAll (v : View X) : Type 0 where
    pub closes : v.closes ≡ true
    pub shares : 64 ≤ v.shares
    pub some_mark : 0 < v.marks
    pub enough : v.marks ≤ length v.takes
    pub done : AllByRecursion (λ (t : Takes X). t.marked ≡ true) v.takes

  abbrev pub LastIsSettled : List (Message X) → List (View X) → Type 0
  LastIsSettled items views = (pass : ℕ) (v : View X) → get_elem? views pass ≡ some v → HoldsAll v → IsSettled v items
