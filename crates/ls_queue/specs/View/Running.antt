-- The seats and ends of a running queue, for its callers: which queue they belong to, and what was put and taken by them.
use Rattle.std.specs.Prelude.{◌≡◌, ℕ, suc, Some, slice_get, slice_index_or, ◌-◌, ◌+◌, ◌≤◌, ◌==◌, ◌||◌, ◌&&◌, ◌<◌, Bool, true, false, List, [], ◌∷◌, ◌++◌, length}
use Rattle.std.specs.List.{sum_by, AllByRecursion}
use Rattle.crossbeam_channel.specs.Claims.{view, IsSeatAt}
use Rattle.crossbeam_channel.specs.Ends.{sends_on, ruled_capacity}
use Rattle.ls_queue.specs.declared.replies.Job.{Job}
use Rattle.ls_queue.specs.declared.views.Puts.{Puts}
use Rattle.ls_queue.specs.declared.views.Takes.{Takes as TakesPart}
use Rattle.ls_queue.specs.declared.account.Channel.{Channel}
use Rattle.ls_queue.specs.declared.running.Queue.{Queue}
use Rattle.ls_queue.specs.declared.running.Closer.{Closer}
use Rattle.ls_queue.specs.declared.running.Finished.{Finished}
use Rattle.ls_queue.specs.declared.running.SettleFault.{SettleFault}
use Rattle.ls_queue.specs.declared.running.SettleCause.{SettleCause}
use Rattle.ls_queue.specs.declared.running.SettleCause.TheVariants as cause
use Rattle.ls_queue.specs.declared.running.FinishFault.{FinishFault}
use Rattle.ls_queue.specs.declared.running.FinishFault.TheVariants as fault
use Rattle.ls_queue.specs.declared.running.SourceSeat.{SourceSeat}
use Rattle.ls_queue.specs.declared.running.WorkerSeat.{WorkerSeat}
use Rattle.ls_queue.specs.declared.running.Ended.{Ended}
use Rattle.ls_queue.specs.declared.running.Taken.{Taken}
use Rattle.ls_queue.specs.declared.running.Taken.TheVariants as taken
use Rattle.ls_queue.specs.View.Account.{source_view, worker_view, closer_view, ending_view, IsCounted, IsWithin, job, jobs_of, numbered, weight_at, is_job}

module _ {X : Type 0} where
  abbrev pub items_in : List (Puts X) → List X
  items_in [] = []
  items_in (u ∷ us) = u.items

  abbrev pub jobs_in_first : List (TakesPart X) → List (Job X)
  jobs_in_first [] = []
  jobs_in_first (u ∷ us) = u.jobs

  -- the items that a source seat put, in order
  abbrev pub items_put : SourceSeat X → List X
  items_put seat = items_in (view seat.pass).puts

  -- the jobs that a worker seat took, in order
  abbrev pub jobs_taken : WorkerSeat X → List (Job X)
  jobs_taken seat = jobs_in_first (view seat.pass).takes

  -- whether `take` has returned Done to it
  abbrev pub is_done : WorkerSeat X → Bool
  is_done seat = seat.done

  -- the items that a source put before its end, in order
  abbrev pub items_ended : Ended X → List X
  items_ended ended = items_in (view ended.pass).puts

  -- the numbers of sources and of workers that a queue was opened for
  abbrev pub sources_of : Queue X → ℕ
  sources_of queue = queue.channel.sources

  abbrev pub workers_of : Queue X → ℕ
  workers_of queue = queue.channel.workers

  -- the most jobs and end marks that its channel holds
  abbrev pub places_of : Queue X → ℕ
  places_of queue = ruled_capacity (sends_on queue.channel.sender)

  -- seats, ends and the closer that belong to the queue with this channel
  pub record IsSourceAt (channel : Channel X) (seat : SourceSeat X) : Type 0 where
    pub pass : IsSeatAt (sends_on channel.sender) seat.pass
    pub known : view seat.pass ≡ source_view seat.source (items_put seat)
    pub count : seat.count ≡ length (items_put seat)
    pub source : seat.source < channel.sources

  abbrev pub IsSourceSeat : Queue X → SourceSeat X → Type 0
  IsSourceSeat queue seat = IsSourceAt queue.channel seat

  pub record IsWorkerAt (channel : Channel X) (seat : WorkerSeat X) : Type 0 where
    pub pass : IsSeatAt (sends_on channel.sender) seat.pass
    pub known : view seat.pass ≡ worker_view channel.sources (jobs_taken seat) (is_done seat)

  abbrev pub IsWorkerSeat : Queue X → WorkerSeat X → Type 0
  IsWorkerSeat queue seat = IsWorkerAt queue.channel seat

  pub record IsEndedAt (channel : Channel X) (ended : Ended X) : Type 0 where
    pub pass : IsSeatAt (sends_on channel.sender) ended.pass
    pub known : view ended.pass ≡ source_view ended.source (items_ended ended)
    pub count : ended.count ≡ length (items_ended ended)
    pub source : ended.source < channel.sources

  abbrev pub IsEnded : Queue X → Ended X → Type 0
  IsEnded queue ended = IsEndedAt queue.channel ended

  pub record IsCloser (queue : Queue X) (closer : Closer X) : Type 0 where
    pub pass : IsSeatAt (sends_on queue.channel.sender) closer.pass
    pub known : view closer.pass ≡ closer_view (64 - queue.channel.sources - queue.channel.workers) queue.channel.sources queue.channel.workers

  -- a new seat for each source from number n on: it has put nothing
  abbrev pub AreNewSources : Channel X → ℕ → List (SourceSeat X) → Type 0
  AreNewSources channel n [] = Unit {0}
  AreNewSources channel n (seat ∷ seats) =
      (IsSourceAt channel seat × (seat.source ≡ n) × (items_put seat ≡ [])) × AreNewSources channel (suc n) seats

  -- new worker seats: they have taken nothing
  abbrev pub AreNewWorkers : Channel X → List (WorkerSeat X) → Type 0
  AreNewWorkers channel [] = Unit {0}
  AreNewWorkers channel (seat ∷ seats) =
      (IsWorkerAt channel seat × (jobs_taken seat ≡ []) × (is_done seat ≡ false)) × AreNewWorkers channel seats

  -- what `open` makes: a seat for each source, in order from source 0, and a seat for each worker, all new
  abbrev pub AreAllSources : Queue X → List (SourceSeat X) → Type 0
  AreAllSources queue seats = AreNewSources queue.channel 0 seats × (length seats ≡ sources_of queue)

  abbrev pub AreAllWorkers : Queue X → List (WorkerSeat X) → Type 0
  AreAllWorkers queue seats = AreNewWorkers queue.channel seats × (length seats ≡ workers_of queue)

  -- any number of worker seats, or of ends, of that queue
  abbrev pub AreWorkerSeats : Queue X → List (WorkerSeat X) → Type 0
  AreWorkerSeats queue seats = AllByRecursion (IsWorkerAt queue.channel) seats

  abbrev pub AreEnds : Queue X → List (Ended X) → Type 0
  AreEnds queue ended = AllByRecursion (IsEndedAt queue.channel) ended

  -- whether the end of source s is among these
  abbrev pub has_end : ℕ → List (Ended X) → Bool
  has_end s [] = false
  has_end s (e ∷ es) = e.source == s || has_end s es

  abbrev pub EachHasEnd : ℕ → List (Ended X) → Type 0
  EachHasEnd sources ended = (s : ℕ) → s < sources → has_end s ended ≡ true

  abbrev pub IsLowestMissing : ℕ → List (Ended X) → ℕ → Type 0
  IsLowestMissing sources ended source = (source < sources) × (has_end source ended ≡ false) × EachHasEnd source ended

  -- if `finish` fails, it names the lowest source without an end, and returns the closer and the ends
  abbrev pub IsMissing : ℕ → Closer X → List (Ended X) → FinishFault X → Type 0
  IsMissing sources closer ended (fault.MissingSource source closer' ended') = IsLowestMissing sources ended source × (closer' ≡ closer) × (ended'.items ≡ ended)

  -- the items of the sources that have ended
  abbrev pub parts_of : List (Ended X) → List (Puts X)
  parts_of [] = []
  parts_of (e ∷ es) = record { source = e.source; items = items_ended e } ∷ parts_of es

  -- ends in the order of their sources, which are those from number n on
  abbrev pub AreInOrder : ℕ → List (Ended X) → Type 0
  AreInOrder n [] = Unit {0}
  AreInOrder n (e ∷ es) = (e.source ≡ n) × AreInOrder (suc n) es

  -- the items of all sources, once the queue is finished
  abbrev pub puts_of : Finished X → List (Puts X)
  puts_of finished = (view finished.pass).puts

  -- all sources have ended, each with its count, and there is an end mark for each worker
  pub record IsFinished (queue : Queue X) (finished : Finished X) : Type 0 where
    pub pass : IsSeatAt (sends_on queue.channel.sender) finished.pass
    pub shares : ℕ
    pub known : view finished.pass ≡ ending_view shares (puts_of finished) queue.channel.sources queue.channel.workers queue.channel.workers
    pub left : 64 ≤ shares + queue.channel.workers
    pub counted : (s : ℕ) → s < queue.channel.sources → IsCounted finished.counts (puts_of finished) s

  -- what worker seats took
  abbrev pub takes_of : List (WorkerSeat X) → List (TakesPart X)
  takes_of [] = []
  takes_of (seat ∷ seats) = record { jobs = jobs_taken seat; marked = is_done seat } ∷ takes_of seats

  abbrev pub all_done : List (WorkerSeat X) → Bool
  all_done [] = true
  all_done (seat ∷ seats) = is_done seat && all_done seats

  -- There is one order of all jobs, in which those of each source are its items, numbered from 0, and there are no others; the seats took these
  -- jobs (for every weight the totals are equal), each seat in that order; and the count of a source is the number of items it put.
  pub record Balances (queue : Queue X) (finished : Finished X) (seats : List (WorkerSeat X)) (counts : List ℕ) : Type 0 where
    pub order : List (Job X)
    pub each : AllByRecursion (λ (u : Puts X). jobs_of u.source order ≡ numbered u.source 0 u.items) (puts_of finished)
    pub no_others : AllByRecursion (λ (j : Job X). j.source < sources_of queue) order
    pub taken : (h : Job X → ℕ) → sum_by (λ (u : TakesPart X). sum_by h u.jobs) (takes_of seats) ≡ sum_by h order
    pub within : AllByRecursion (λ (u : TakesPart X). IsWithin u.jobs order) (takes_of seats)
    pub counted : (s : ℕ) → s < sources_of queue → IsCounted counts (puts_of finished) s

  -- Of each source the seats took the jobs with the numbers below its count, each once and with the item that was put under that number; and they
  -- took no others. This follows from `Balances`.
  pub record TookAll (sources : ℕ) (puts : List (Puts X)) (seats : List (WorkerSeat X)) (counts : List ℕ) : Type 0 where
    pub once : (s n : ℕ) → s < sources → n < slice_index_or counts s 0 → sum_by (λ (u : TakesPart X). sum_by (is_job s n) u.jobs) (takes_of seats) ≡ 1
    pub item : AllByRecursion (λ (u : Puts X). (n : ℕ) (x : X) → slice_get u.items n ≡ Some x → (h : Job X → ℕ)
        → sum_by (λ (t : TakesPart X). sum_by (weight_at u.source n h) t.jobs) (takes_of seats) ≡ h (job u.source n x)) puts
    pub no_others : AllByRecursion (λ (u : TakesPart X). AllByRecursion (λ (j : Job X). (j.source < sources) × (j.number < slice_index_or counts j.source 0)) u.jobs) (takes_of seats)

  -- why a queue isn't settled; too few seats are reported before a seat that isn't done
  abbrev pub IsCause : Queue X → List (WorkerSeat X) → SettleCause → Type 0
  IsCause queue seats cause.MissingSeat = length seats < workers_of queue
  IsCause queue seats cause.NotEmpty = (workers_of queue ≤ length seats) × (all_done seats ≡ false)

  -- everything that was passed is returned, with the cause
  abbrev pub IsUnsettled : Queue X → Finished X → List (WorkerSeat X) → SettleFault X → Type 0
  IsUnsettled queue finished seats fault =
      IsCause queue seats fault.cause × (fault.queue ≡ queue) × (fault.finished ≡ finished) × (fault.seats.items ≡ seats)

  -- a take returns a job and the seat's list grows by it; or it returns Done, and the list stays
  abbrev pub Takes : Queue X → WorkerSeat X → Taken X → WorkerSeat X → Type 0
  Takes queue before (taken.Job j) after =
      (is_done before ≡ false) × (is_done after ≡ false) × (jobs_taken after ≡ jobs_taken before ++ j ∷ []) × (j.source < sources_of queue)
  Takes queue before taken.Done after = (is_done after ≡ true) × (jobs_taken after ≡ jobs_taken before)
