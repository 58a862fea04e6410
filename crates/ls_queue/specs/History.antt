-- Steps with their replies: what each source sent, what was taken of it, what is held, and which reply is the lawful one. No state of a queue is
-- used: the steps and replies before a reply decide it.
use Rattle.std.specs.Prelude.{◌≡◌, ℕ, Bool, false, not, ◌&&◌, ◌==◌, if◌then◌else◌, List, [], ◌∷◌, ◌++◌, length, map, filter, flat_map, All, IsTrue}
use Rattle.std.specs.List.{list_any, list_all, range_with_len}
use Rattle.ls_queue.specs.declared.replies.Job.{Job}
use Rattle.ls_queue.specs.declared.replies.Put.TheVariants as put
use Rattle.ls_queue.specs.declared.replies.Close.TheVariants as close
use Rattle.ls_queue.specs.declared.replies.Take.TheVariants as take
use Rattle.ls_queue.specs.declared.steps.Step.{Step}
use Rattle.ls_queue.specs.declared.steps.Step.TheVariants as step
use Rattle.ls_queue.specs.declared.steps.Reply.{Reply}
use Rattle.ls_queue.specs.declared.steps.Reply.TheVariants as reply
use Rattle.ls_queue.specs.Queue.{spent_count, take_of}
use Rattle.ls_queue.specs.Steps.{is_known}

-- A step with its reply. A history is a list of these, in order.
pub record Event : Type 0 where
  pub step : Step
  pub reply : Reply

abbrev pub event : Step → Reply → Event
event step reply = record { step = step; reply = reply }

abbrev pub history : List Step → List Reply → List Event
history [] replies = []
history (step ∷ steps) [] = []
history (step ∷ steps) (reply ∷ replies) = event step reply ∷ history steps replies

-- the job of a put of x by source s, if the reply was Taken
abbrev pub job_put : ℕ → ℕ → Reply → List (Job ℕ)
job_put s x (reply.Put (put.Taken n)) = record { source = s; number = n; item = x } ∷ []
job_put s x (reply.Put (put.Closed y)) = []
job_put s x (reply.Put (put.Spent y)) = []
job_put s x (reply.Put (put.Full y)) = []
job_put s x (reply.Close r) = []
job_put s x (reply.Take r) = []

abbrev pub job_in : Event → List (Job ℕ)
job_in event = elim event.step [ step.Put s x ↦ job_put s x event.reply | step.Close s ↦ [] | step.Take ↦ [] ]

-- the job that a take returned
abbrev pub job_taken : Reply → List (Job ℕ)
job_taken (reply.Take (take.Job job)) = job ∷ []
job_taken (reply.Take take.Empty) = []
job_taken (reply.Take take.Done) = []
job_taken (reply.Put r) = []
job_taken (reply.Close r) = []

abbrev pub job_out : Event → List (Job ℕ)
job_out event = elim event.step [ step.Put s x ↦ [] | step.Close s ↦ [] | step.Take ↦ job_taken event.reply ]

-- in order, the jobs of the puts whose reply was Taken, and the jobs that takes returned
abbrev pub jobs_in : List Event → List (Job ℕ)
jobs_in events = flat_map job_in events

abbrev pub jobs_out : List Event → List (Job ℕ)
jobs_out events = flat_map job_out events

-- the items of the jobs of source s
abbrev pub items_of : ℕ → List (Job ℕ) → List ℕ
items_of s jobs = map (λ (job : Job ℕ). job.item) (filter (λ (job : Job ℕ). job.source == s) jobs)

-- the items of the puts of source s whose reply was Taken
abbrev pub sent : ℕ → List Event → List ℕ
sent s events = items_of s (jobs_in events)

-- the items of the jobs of source s that takes returned
abbrev pub taken : ℕ → List Event → List ℕ
taken s events = items_of s (jobs_out events)

-- a job is identified by its source and its number
abbrev pub is_same : Job ℕ → Job ℕ → Bool
is_same one other = one.source == other.source && one.number == other.number

abbrev pub is_among : List (Job ℕ) → Job ℕ → Bool
is_among jobs job = list_any (λ one. is_same one job) jobs

-- the jobs of the puts whose reply was Taken and which no take has returned, in the order of their puts
abbrev pub held : List Event → List (Job ℕ)
held events = filter (λ job. not (is_among (jobs_out events) job)) (jobs_in events)

-- whether a step closes source s; whether one of the events did; whether all sources were closed
abbrev pub closes : ℕ → Step → Bool
closes s (step.Close t) = t == s
closes s (step.Put t x) = false
closes s step.Take = false

abbrev pub was_closed : ℕ → List Event → Bool
was_closed s events = list_any (λ (event : Event). closes s event.step) events

abbrev pub all_were_closed : ℕ → List Event → Bool
all_were_closed sources events = list_all (λ s. was_closed s events) (range_with_len 0 sources)

-- The lawful reply of a queue with this number of sources and this capacity, after these events. To a put: Closed if its source was closed
-- before; else Spent if the source has sent 2^64 - 1 items; else Full if the number of jobs held is the capacity; else Taken, with the number of
-- items sent. To a close: the number of items sent, as Already if the source was closed before, else as Now. To a take: the first job held; if
-- none is, Done if all sources are closed, else Empty.
abbrev pub lawful_reply : ℕ → ℕ → List Event → Step → Reply
lawful_reply sources capacity before (step.Put s x) = reply.Put (if was_closed s before then put.Closed x else
    (if length (sent s before) == spent_count then put.Spent x else
    (if length (held before) == capacity then put.Full x else put.Taken (length (sent s before)))))
lawful_reply sources capacity before (step.Close s) = reply.Close (if was_closed s before then close.Already (length (sent s before)) else close.Now (length (sent s before)))
lawful_reply sources capacity before step.Take = reply.Take (take_of (held before) (all_were_closed sources before))

-- each later event has the reply that is lawful after the events before it
abbrev pub AreLawful : ℕ → ℕ → List Event → List Event → Type 0
AreLawful sources capacity before [] = Unit {0}
AreLawful sources capacity before (event ∷ later) =
    (event.reply ≡ lawful_reply sources capacity before event.step) × AreLawful sources capacity (before ++ event ∷ []) later

-- Each step that names a source names an existing one, and each reply is the lawful one.
pub record IsHistory (sources capacity : ℕ) (events : List Event) : Type 0 where
  pub known : All (λ (one : Event). IsTrue (is_known sources one.step)) events
  pub lawful : AreLawful sources capacity [] events

-- One reply for each step, each the lawful one; and for each source what was taken, followed by what is held, is what was sent.
pub record IsReplay (sources capacity : ℕ) (steps : List Step) (replies : List Reply) : Type 0 where
  pub one_each : length replies ≡ length steps
  pub lawful : AreLawful sources capacity [] (history steps replies)
  pub kept : (s : ℕ) → taken s (history steps replies) ++ items_of s (held (history steps replies)) ≡ sent s (history steps replies)
