-- The boxes that carry results from workers to lanes: to which inbox each sender leads.
use Rattle.std.specs.Prelude.{◌≡◌, ℕ, suc, ◌+◌, ◌-◌, ◌^◌, min, List, [], ◌∷◌, ◌++◌, length, map}
use Rattle.std.specs.List.{sum_by, AllByRecursion}
use Rattle.crossbeam_channel.specs.Ends.{sends_on, receives_on, ruled_capacity}
use Rattle.ls_queue.specs.declared.replies.Job.{Job}
use Rattle.ls_queue.specs.declared.running.WorkerSeat.{WorkerSeat}
use Rattle.ls_queue.specs.View.Running.{jobs_taken}
use Rattle.ls_pieces.specs.Orders.{Ordered}
use Rattle.ls_recorder.specs.View.Answers.{Reply, number_of, sent_by, received_by}
use Rattle.ls_recorder.specs.declared.delivery.ends.Inbox.{Inbox}
use Rattle.ls_recorder.specs.declared.delivery.ends.InboxSender.{InboxSender}
use Rattle.ls_recorder.specs.declared.delivery.ends.Outbox.{Outbox}

-- the inboxes of the sources from number n on, in order
abbrev pub AreFrom : ℕ → List Inbox → Type 0
AreFrom n [] = Unit {0}
AreFrom n (inbox ∷ inboxes) = (inbox.source ≡ n) × AreFrom (suc n) inboxes

-- the senders lead to the inboxes, one to each, in order
abbrev pub LeadTo : List Inbox → List InboxSender → Type 0
LeadTo inboxes senders = map (λ (sender : InboxSender). sends_on sender.channel) senders ≡ map (λ (inbox : Inbox). receives_on inbox.receiver) inboxes

-- each inbox holds at most `window` results
abbrev pub HaveCapacity : ℕ → List Inbox → Type 0
HaveCapacity window inboxes = AllByRecursion (λ (inbox : Inbox). ruled_capacity (receives_on inbox.receiver) ≡ window) inboxes

-- There is an inbox for each source, in order from source 0, each of which holds at most `window` results; and an outbox for each worker, with a sender
-- to each inbox.
pub record AreBoxes (sources workers window : ℕ) (inboxes : List Inbox) (outboxes : List Outbox) : Type 0 where
  pub sources_are : length inboxes ≡ sources
  pub in_order : AreFrom 0 inboxes
  pub capacity : HaveCapacity window inboxes
  pub workers_are : length outboxes ≡ workers
  pub lead : AllByRecursion (λ (outbox : Outbox). LeadTo inboxes outbox.senders.items) outboxes

-- the senders lead to the same inboxes as the others, in order
abbrev pub LeadAlike : List InboxSender → List InboxSender → Type 0
LeadAlike senders others = map (λ (sender : InboxSender). sends_on sender.channel) senders ≡ map (λ (sender : InboxSender). sends_on sender.channel) others

-- the results that came out of an inbox, in order
abbrev pub answers_received : Inbox → List Reply
answers_received inbox = received_by inbox.pass

-- the results that a worker sent to each source, in order
abbrev pub answers_sent : Outbox → List (List Reply)
answers_sent outbox = map (λ (sender : InboxSender). sent_by sender.pass) outbox.senders.items

-- The total weight of results sent to the sources from number s on, and of jobs, for any function that weighs a source and a number. If two totals
-- are equal for every such function, each source has the same numbers on both sides.
abbrev pub weigh_from : (ℕ → ℕ → ℕ) → ℕ → List (List Reply) → ℕ
weigh_from h s [] = 0
weigh_from h s (sent ∷ later) = sum_by (λ (r : Reply). h s (number_of r)) sent + weigh_from h (suc s) later

abbrev pub weigh_jobs : (ℕ → ℕ → ℕ) → List (Job Ordered) → ℕ
weigh_jobs h jobs = sum_by (λ (j : Job Ordered). h j.source j.number) jobs

-- A worker took jobs, and each has one result: it was sent to the job's source, or was lost, since its lane was gone.
pub record AnswersAll (seat seat' : WorkerSeat Ordered) (outbox outbox' : Outbox) (undelivered : ℕ) : Type 0 where
  pub jobs : List (Job Ordered)
  pub taken : jobs_taken seat' ≡ jobs_taken seat ++ jobs
  pub lost : List (Job Ordered)
  pub each : (h : ℕ → ℕ → ℕ) → weigh_from h 0 (answers_sent outbox') + weigh_jobs h lost ≡ weigh_from h 0 (answers_sent outbox) + weigh_jobs h jobs
  pub counted : undelivered ≡ min (length lost) (2 ^ 64 - 1)
