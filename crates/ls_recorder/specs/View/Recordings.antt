-- What a recording did: the lane of each film, the workers, and the account.
use Rattle.std.specs.Prelude.{◌≡◌, ◌⊎◌, ℕ, suc, ◌≤◌, true, List, [], ◌∷◌, length, Option, Err, IfOk, MatchResult, slice_index_or, vec_capacity}
use Rattle.std.specs.List.{AllByRecursion}
use Rattle.std.specs.declared.sync.atomic.AtomicBool.{AtomicBool}
use Rattle.std.specs.declared.thread.PromisedHandle.{PromisedHandle}
use Rattle.ls_frame.specs.declared.tuning.Tuning.{Tuning}
use Rattle.ls_frame.specs.View.Devices.{count_after}
use Rattle.ls_queue.specs.declared.running.Queue.{Queue}
use Rattle.ls_queue.specs.declared.running.Ended.{Ended}
use Rattle.ls_queue.specs.View.Running.{IsEnded, IsWorkerSeat, is_done, puts_of, parts_of, IsFinished, IsCloser, AreAllSources, AreWorkerSeats, all_done, sources_of, workers_of}
use Rattle.ls_pieces.specs.Collecting.{most_window}
use Rattle.ls_recorder.specs.declared.delivery.ends.Outbox.{Outbox}
use Rattle.ls_recorder.specs.declared.lane.LaneEnd.{LaneEnd}
use Rattle.ls_recorder.specs.declared.lane.LaneFault.TheVariants.{NotStarted}
use Rattle.ls_recorder.specs.declared.working.Worked.{Worked}
use Rattle.ls_recorder.specs.declared.recording.Track.{Track}
use Rattle.ls_recorder.specs.declared.recording.threads.Seats.{Seats}
use Rattle.ls_recorder.specs.declared.recording.threads.Buffers.{Buffers}
use Rattle.ls_recorder.specs.declared.recording.threads.Ran.{Ran}
use Rattle.ls_recorder.specs.declared.recording.workers.WorkerOf.{WorkerOf}
use Rattle.ls_recorder.specs.declared.recording.lanes.Lane.{Lane}
use Rattle.ls_recorder.specs.declared.recording.lanes.Lane.TheVariants as lane
use Rattle.ls_recorder.specs.View.Boxes.{AreFrom}
use Rattle.ls_pieces.specs.Orders.{Ordered}
use Rattle.ls_recorder.specs.View.Lanes.{Records, StopsLane, ReadsSo, IsLaneEnd, failed_writer}

-- ---- films and their tracks. A film is a reader, a writer for its recording, and a tuning.

module _ {R W : Type 0} (remaining : R → Option (List ℕ)) (failed_reads : R → ℕ) (contents : W → Option (List ℕ)) (failed_writes : W → ℕ) where
  -- the lane of a film wasn't started; or it put these items, and its result says what it recorded
  abbrev pub DidLane : R × W × Tuning → List Ordered → Track R W → Type 0
  DidLane film items track =
      ((track.result ≡ Err NotStarted) × (items ≡ []) × (track.reader ≡ film.0) × (track.writer ≡ film.1))
      ⊎ MatchResult track.result
      (Records film.2 items (remaining film.0) (remaining track.reader) (contents film.1) (contents track.writer))
      (StopsLane film.2 items (remaining film.0) (remaining track.reader) (contents film.1) (contents track.writer))

  -- what a track says of its film, of the number of its items that were put, and of its devices
  pub record IsTrack (film : R × W × Tuning) (count : ℕ) (track : Track R W) : Type 0 where
    pub items : List Ordered
    pub put : count ≡ length items
    pub did : DidLane film items track
    pub reads : MatchResult track.result (λ frames. failed_reads track.reader ≡ failed_reads film.0) (λ fault. ReadsSo fault (failed_reads film.0) (failed_reads track.reader))
    pub writes : failed_writes track.writer ≡ count_after (failed_writer track.result) (failed_writes film.1)

  -- a track for each film, in order from source s on, with the number of its items that were put
  abbrev pub AreTracks : List ℕ → ℕ → List (R × W × Tuning) → List (Track R W) → Type 0
  AreTracks counts s [] [] = Unit {0}
  AreTracks counts s [] (t ∷ ts) = ⊥
  AreTracks counts s (f ∷ fs) [] = ⊥
  AreTracks counts s (f ∷ fs) (t ∷ ts) = IsTrack f (slice_index_or counts s 0) t × AreTracks counts (suc s) fs ts

  -- the lane of a film was started with that film, or it has ended
  abbrev pub IsStarted : Queue Ordered → ℕ → R × W × Tuning → Lane R W → Type 0
  IsStarted queue s film (lane.Running h) = (h.promise.queue.value ≡ queue) × (h.promise.source ≡ s) × (h.promise.tuning ≡ film.2)
      × (h.promise.reader.value ≡ film.0) × (h.promise.writer.value ≡ film.1)
  IsStarted queue s film (lane.Refused end) = IsLaneEnd remaining failed_reads contents failed_writes queue s film.2 film.0 film.1 end

  -- a lane for each film, in order from source s on
  abbrev pub AreStarted : Queue Ordered → ℕ → List (R × W × Tuning) → List (Lane R W) → Type 0
  AreStarted queue s [] [] = Unit {0}
  AreStarted queue s [] (l ∷ ls) = ⊥
  AreStarted queue s (f ∷ fs) [] = ⊥
  AreStarted queue s (f ∷ fs) (l ∷ ls) = IsStarted queue s f l × AreStarted queue (suc s) fs ls

  -- the end of the source and the track of each film's lane, in order from source s on
  abbrev pub AreDone : Queue Ordered → ℕ → List (R × W × Tuning) → List (Ended Ordered) → List (Track R W) → Type 0
  AreDone queue s [] [] [] = Unit {0}
  AreDone queue s [] [] (t ∷ ts) = ⊥
  AreDone queue s [] (e ∷ es) ts = ⊥
  AreDone queue s (f ∷ fs) [] ts = ⊥
  AreDone queue s (f ∷ fs) (e ∷ es) [] = ⊥
  AreDone queue s (f ∷ fs) (e ∷ es) (t ∷ ts) =
      IsLaneEnd remaining failed_reads contents failed_writes queue s f.2 f.0 f.1 (record { ended = e; reader = t.reader; writer = t.writer; result = t.result }) × AreDone queue (suc s) fs es ts

  -- How the threads ended: each film has its lane's track, all sources ended, and each worker's last take returned Done.
  pub record HasRun (queue : Queue Ordered) (films : List (R × W × Tuning)) (ran : Ran R W) : Type 0 where
    pub ended : List (Ended Ordered)
    pub lanes : AreDone queue 0 films ended ran.tracks.items
    pub puts : puts_of ran.finished ≡ parts_of ended
    pub finished : IsFinished queue ran.finished
    pub seats : AreWorkerSeats queue ran.seats.items
    pub done : all_done ran.seats.items ≡ true
    pub workers : length ran.seats.items ≡ workers_of queue

module _ {R W : Type 0} where
  -- the counts of the films that were recorded completely are their numbers of frames, from source s on
  abbrev pub AreCounted : List ℕ → ℕ → List (Track R W) → Type 0
  AreCounted counts s [] = Unit {0}
  AreCounted counts s (t ∷ ts) = IfOk t.result (λ n. slice_index_or counts s 0 ≡ n) × AreCounted counts (suc s) ts

  -- all vectors are empty, with capacity for these numbers of sources and workers
  pub record AreBuffers (sources workers : ℕ) (buffers : Buffers R W) : Type 0 where
    pub working : (buffers.working.items ≡ []) × (workers ≤ vec_capacity buffers.working)
    pub lanes : (buffers.lanes.items ≡ []) × (sources ≤ vec_capacity buffers.lanes)
    pub ended : (buffers.ended.items ≡ []) × (sources ≤ vec_capacity buffers.ended)
    pub tracks : (buffers.tracks.items ≡ []) × (sources ≤ vec_capacity buffers.tracks)
    pub seats : (buffers.seats.items ≡ []) × (workers ≤ vec_capacity buffers.seats)

-- ---- workers

-- a worker took jobs until a take returned Done
pub record IsWorked (queue : Queue Ordered) (worked : Worked) : Type 0 where
  pub seat : IsWorkerSeat queue worked.seat
  pub done : is_done worked.seat ≡ true

-- workers of this queue
abbrev pub AreWorking : Queue Ordered → List (PromisedHandle Worked WorkerOf) → Type 0
AreWorking queue handles = AllByRecursion (λ (h : PromisedHandle Worked WorkerOf). h.promise.queue.value ≡ queue) handles

-- ---- what threads are started with

-- each outbox has a sender for each source
abbrev pub LeadToAll : ℕ → List Outbox → Type 0
LeadToAll sources outboxes = AllByRecursion (λ (outbox : Outbox). sources ≤ length outbox.senders.items) outboxes

-- all seats of the queue, its closer, and a box for each source and each worker
pub record AreSeats (queue : Queue Ordered) (seats : Seats) : Type 0 where
  pub sources : AreAllSources queue seats.sources.items
  pub workers : AreWorkerSeats queue seats.workers.items
  pub workers_are : length seats.workers.items ≡ workers_of queue
  pub closer : IsCloser queue seats.closer
  pub inboxes : AreFrom 0 seats.inboxes.items
  pub inboxes_are : length seats.inboxes.items ≡ sources_of queue
  pub outboxes : LeadToAll (sources_of queue) seats.outboxes.items
  pub outboxes_are : length seats.outboxes.items ≡ workers_of queue

-- the films, and all that was prepared for their lanes and for the workers
pub record MayRun {R W : Type 0} (queue : Queue Ordered) (refused : List AtomicBool) (window : ℕ) (films : List (R × W × Tuning)) (seats : Seats) (buffers : Buffers R W) : Type 0 where
  pub films_are : length films ≡ sources_of queue
  pub sources : sources_of queue ≤ 16
  pub seats_are : AreSeats queue seats
  pub flags : length refused ≡ sources_of queue
  pub some : 1 ≤ window
  pub few : window ≤ most_window
  pub buffers_are : AreBuffers (sources_of queue) (workers_of queue) buffers
