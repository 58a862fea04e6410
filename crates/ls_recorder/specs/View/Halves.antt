-- The two halves of a lane: what the reading half read, booked and put; what the writing half took of the bookings, and what it wrote.
use Rattle.std.specs.Prelude.{◌≡◌, ◌≢◌, ◌⊎◌, ℕ, ◌+◌, ◌<◌, ◌≤◌, Bool, true, false, List, [], ◌∷◌, length, map, ◌++◌, nat_lt, if◌then◌else◌, Option, Some, Result, Ok, Err, MatchResult, vec_capacity}
use Rattle.std.specs.Io.KnownBytes.{Appends}
use Rattle.crossbeam_channel.specs.Ends.{sends_on, receives_on}
use Rattle.ls_frame.specs.declared.tuning.Tuning.{Tuning}
use Rattle.ls_frame.specs.Picture.{Picture}
use Rattle.ls_frame.specs.Netpbm.{IsImageOf}
use Rattle.ls_frame.specs.View.Devices.{count_after}
use Rattle.ls_frame.specs.View.Known.{WasAtEnd}
use Rattle.ls_film.specs.Film.{most_frames}
use Rattle.ls_film.specs.Coding.{file}
use Rattle.ls_film.specs.View.Given.{GaveFrames}
use Rattle.ls_queue.specs.declared.replies.Job.{Job}
use Rattle.ls_queue.specs.declared.running.Queue.{Queue}
use Rattle.ls_queue.specs.declared.running.SourceSeat.{SourceSeat}
use Rattle.ls_queue.specs.declared.running.WorkerSeat.{WorkerSeat}
use Rattle.ls_queue.specs.declared.running.Ended.{Ended}
use Rattle.ls_queue.specs.View.Running.{IsSourceSeat, IsWorkerSeat, IsCloser, IsEnded, IsFinished, items_put, items_ended, jobs_taken, is_done, puts_of, parts_of, sources_of, workers_of}
use Rattle.ls_pieces.specs.Orders.{Ordered}
use Rattle.ls_pieces.specs.Collecting.{Collection, booked, misfit_of, new_collection, most_window}
use Rattle.ls_pieces.specs.declared.collector.Misfit.TheVariants.{NotBooked as WasNotBooked}
use Rattle.ls_pieces.specs.declared.pieces.Uncoded.{Uncoded}
use Rattle.ls_recorder.specs.declared.delivery.ends.Inbox.{Inbox}
use Rattle.ls_recorder.specs.View.Boxes.{answers_received}
use Rattle.ls_recorder.specs.declared.lane.LaneFault.{LaneFault}
use Rattle.ls_recorder.specs.declared.lane.LaneFault.TheVariants.{NoMemory, Misfit, Lost, NotStarted}
use Rattle.ls_recorder.specs.declared.lane.Start.{Start}
use Rattle.ls_recorder.specs.declared.lane.Parts.{Parts}
use Rattle.ls_recorder.specs.declared.lane.places.Places.{Places}
use Rattle.ls_recorder.specs.declared.lane.places.Returns.{Returns}
use Rattle.ls_recorder.specs.declared.lane.reading.Reading.{Reading}
use Rattle.ls_recorder.specs.declared.lane.reading.ReadingEnd.{ReadingEnd}
use Rattle.ls_recorder.specs.declared.lane.writing.Writing.{Writing}
use Rattle.ls_recorder.specs.declared.lane.writing.WritingEnd.{WritingEnd}
use Rattle.ls_recorder.specs.declared.lane.writing.Halt.{Halt}
use Rattle.ls_recorder.specs.declared.lane.writing.Halt.TheVariants as halt
use Rattle.ls_recorder.specs.View.Lanes.{AreOrdersOf, StopsReading, WroteFirst, IsWriting, StopsWriting, blames_writer, failed_reader, failed_writer}

-- ---- the beginning

-- what a lane starts with: a seat that has put nothing, an inbox of its source, and a window
pub record MayStart {R W : Type 0} (queue : Queue Ordered) (start : Start R W) : Type 0 where
  pub seat : IsSourceSeat queue start.seat
  pub new : items_put start.seat ≡ []
  pub inbox : start.inbox.source ≡ start.seat.source
  pub some : 1 ≤ start.window
  pub few : start.window ≤ most_window

-- the two ends by which places go, of one channel: none is taken or given back yet
pub record ArePlaces (window : ℕ) (places : Places) (returns : Returns) : Type 0 where
  pub window_is : places.window ≡ window
  pub untaken : places.taken ≡ 0
  pub unreturned : returns.returned ≡ 0
  pub one_channel : receives_on places.receiver ≡ sends_on returns.sender

-- What the halves of a lane need: the seats of a queue of one source and one worker, by which nothing was put or taken, a collector with nothing
-- booked, and capacity for the arguments of `finish` and `settle`.
pub record ArePartsOf (bookings : Queue Ordered) (source window : ℕ) (parts : Parts) : Type 0 where
  pub one_source : sources_of bookings ≡ 1
  pub one_worker : workers_of bookings ≡ 1
  pub booked : IsSourceSeat bookings parts.booked
  pub unbooked : items_put parts.booked ≡ []
  pub closer : IsCloser bookings parts.closer
  pub ended : (parts.ended.items ≡ []) × (1 ≤ vec_capacity parts.ended)
  pub taker : IsWorkerSeat bookings parts.taker
  pub untaken : jobs_taken parts.taker ≡ []
  pub collector : parts.collector ≡ new_collection source window
  pub places : ArePlaces window parts.places parts.returns
  pub seats : (parts.seats.items ≡ []) × (1 ≤ vec_capacity parts.seats)

-- ---- the reading half

pub record MayRead {R : Type 0} (queue bookings : Queue Ordered) (reading : Reading R) : Type 0 where
  pub seat : IsSourceSeat queue reading.seat
  pub new : items_put reading.seat ≡ []
  pub one : sources_of bookings ≡ 1
  pub booked : IsSourceSeat bookings reading.booked
  pub unbooked : items_put reading.booked ≡ []
  pub closer : IsCloser bookings reading.closer
  pub ended : (reading.ended.items ≡ []) × (1 ≤ vec_capacity reading.ended)
  pub untaken : reading.places.taken ≡ 0

module _ (tuning : Tuning) (items : List Ordered) (read : Option (List ℕ)) where
  -- n frames were read so far, and all were put
  pub record HasRead (now : Option (List ℕ)) (n : ℕ) : Type 0 where
    pub frames : List Picture
    pub count : length frames ≡ n
    pub gave : GaveFrames IsImageOf read now frames
    pub put : AreOrdersOf tuning frames items

  -- n frames were read and put, and then the reader was at its end
  pub record HasReadAll (read' : Option (List ℕ)) (n : ℕ) : Type 0 where
    pub before : Option (List ℕ)
    pub run : HasRead before n
    pub few : n ≤ most_frames
    pub end : WasAtEnd before read'

  -- n frames were read and put, and the next one can't be read; or an allocation failed
  pub record HasReadSome (read' : Option (List ℕ)) (fault : LaneFault) : Type 0 where
    pub n : ℕ
    pub before : Option (List ℕ)
    pub run : HasRead before n
    pub few : n ≤ most_frames
    pub why : StopsReading tuning before read' n fault ⊎ (fault ≡ NoMemory)

module _ {R : Type 0} (remaining : R → Option (List ℕ)) (failed_reads : R → ℕ) where
  -- How the reading half ended: what was put is what was booked, each with a place of the window, and the bookings are finished.
  pub record IsReadingEnd (queue bookings : Queue Ordered) (tuning : Tuning) (reading : Reading R) (end : ReadingEnd R) : Type 0 where
    pub seat_is : IsSourceSeat queue end.seat
    pub source : end.seat.source ≡ reading.seat.source
    pub finished : IsFinished bookings end.finished
    pub ended : Ended Ordered
    pub ended_is : IsEnded bookings ended
    pub booked : items_ended ended ≡ items_put end.seat
    pub puts : puts_of end.finished ≡ parts_of (ended ∷ [])
    pub read : MatchResult end.result
        (HasReadAll tuning (items_put end.seat) (remaining reading.reader) (remaining end.reader))
        (λ fault. ((fault ≡ NotStarted) × (items_put end.seat ≡ []) × (end.reader ≡ reading.reader)) ⊎ HasReadSome tuning (items_put end.seat) (remaining reading.reader) (remaining end.reader) fault)
    pub reads : failed_reads end.reader ≡ count_after (failed_reader end.result) (failed_reads reading.reader)
    pub taken : length (items_put end.seat) ≤ end.places.taken
    pub places : (end.places.window ≡ reading.places.window) × (receives_on end.places.receiver ≡ receives_on reading.places.receiver)

-- ---- the writing half

-- the orders that a seat took from the bookings
abbrev pub orders_taken : WorkerSeat Ordered → List Ordered
orders_taken seat = map (λ (j : Job Ordered). j.item) (jobs_taken seat)

-- all orders that were taken are booked in the collector
pub record HasTaken (bookings : Queue Ordered) (window : ℕ) (seat : WorkerSeat Ordered) (c : Collection) : Type 0 where
  pub seat_is : IsWorkerSeat bookings seat
  pub counted : booked c ≡ length (jobs_taken seat)
  pub few : booked c ≤ most_frames
  pub window_is : c.window ≡ window

-- more orders were taken, perhaps none
pub record TakesMore (seat seat' : WorkerSeat Ordered) : Type 0 where
  pub more : List Ordered
  pub taken : orders_taken seat' ≡ orders_taken seat ++ more

-- more orders were taken and booked; what was written stays the same, and they wait
pub record Books (seat : WorkerSeat Ordered) (c : Collection) (seat' : WorkerSeat Ordered) (c' : Collection) : Type 0 where
  pub waits : (start now : Option (List ℕ)) (bytes : ℕ) → IsWriting (orders_taken seat) start now c bytes → IsWriting (orders_taken seat') start now c' bytes
  pub first : c'.first ≡ c.first
  pub more : length c.slots ≤ length c'.slots

module _ (items : List Ordered) (start now : Option (List ℕ)) where
  -- a coded frame came whose number is that of the next order to be booked plus `ahead`
  pub record IsAhead (ahead : ℕ) : Type 0 where
    pub collection : Collection
    pub bytes : ℕ
    pub piece : Job Ordered
    pub writing : IsWriting items start now collection bytes
    pub some : 0 < length collection.slots
    pub counted : booked collection ≡ length items
    pub refused : misfit_of collection piece ≡ Some WasNotBooked
    pub number : piece.number ≡ length items + ahead

  -- why the writing stops
  abbrev pub HaltsWriting : Halt → Type 0
  HaltsWriting (halt.Fault fault) = StopsWriting items start now fault × (fault ≢ Misfit WasNotBooked)
  HaltsWriting (halt.NotBooked ahead) = IsAhead ahead

-- it stops in this way, whatever orders were taken and whatever the writer held at the start
abbrev pub HaltsSo : Option (List ℕ) → Collection → ℕ → Option (List ℕ) → Halt → Type 0
HaltsSo now c bytes now' h = (items : List Ordered) (start : Option (List ℕ)) → IsWriting items start now c bytes → HaltsWriting items start now' h

-- what was written then are codestreams of the first orders, of this number of them at least
abbrev pub WroteFirstSo : Option (List ℕ) → Collection → ℕ → Option (List ℕ) → ℕ → Type 0
WroteFirstSo now c bytes now' count = (items : List Ordered) (start : Option (List ℕ)) → IsWriting items start now c bytes → WroteFirst items start now' count

-- What came out of an inbox: a coded frame; or a job for which a worker had no memory; or nothing, since no worker is left.
abbrev pub Receives : Inbox → Result (Job Ordered) Halt → Inbox → Type 0
Receives inbox (Ok piece) inbox' = answers_received inbox' ≡ answers_received inbox ++ Ok piece ∷ []
Receives inbox (Err h) inbox' =
    ((h ≡ halt.Fault NoMemory) × (uncoded : Uncoded) × (answers_received inbox' ≡ answers_received inbox ++ Err uncoded ∷ []))
    ⊎ ((h ≡ halt.Fault Lost) × (answers_received inbox' ≡ answers_received inbox))

-- the collector refuses a coded frame for this reason
abbrev pub RefusesPiece : Collection → Job Ordered → Halt → Type 0
RefusesPiece c piece (halt.Fault (Misfit misfit)) = (misfit_of c piece ≡ Some misfit) × (misfit ≢ WasNotBooked)
RefusesPiece c piece (halt.Fault fault) = ⊥
RefusesPiece c piece (halt.NotBooked ahead) = (misfit_of c piece ≡ Some WasNotBooked) × (piece.number ≡ booked c + ahead)

-- The fault for which it stopped, once the remaining orders were taken, of which there are `more`: if the order of an early coded frame is among
-- them, it was booked further ahead than the collector has room.
abbrev pub fault_after : Halt → ℕ → LaneFault
fault_after (halt.Fault fault) more = fault
fault_after (halt.NotBooked ahead) more = if nat_lt ahead more then NoMemory else Misfit WasNotBooked

-- whether it stops because the writer's device failed
abbrev pub halts_for_writer : Halt → Bool
halts_for_writer (halt.Fault fault) = blames_writer fault
halts_for_writer (halt.NotBooked ahead) = false

abbrev pub halted_writer : {X : Type 0} → Result X Halt → Bool
halted_writer (Ok x) = false
halted_writer (Err h) = halts_for_writer h

module _ {W : Type 0} where
  pub record MayWrite (bookings : Queue Ordered) (window : ℕ) (writing : Writing W) : Type 0 where
    pub seat : IsWorkerSeat bookings writing.seat
    pub untaken : jobs_taken writing.seat ≡ []
    pub some : 1 ≤ window
    pub collector : writing.arrivals.collector ≡ new_collection writing.arrivals.inbox.source window
    pub returns : writing.arrivals.returns.returned ≡ 0

module _ {W : Type 0} (contents : W → Option (List ℕ)) (failed_writes : W → ℕ) where
  -- How the writing half ended: the bookings are done, and the codestreams of the orders taken from them were written, or the fault says what was.
  pub record IsWritingEnd (bookings : Queue Ordered) (writing : Writing W) (end : WritingEnd W) : Type 0 where
    pub seat : IsWorkerSeat bookings end.seat
    pub done : is_done end.seat ≡ true
    pub wrote : MatchResult end.result
        (λ _. Appends (contents writing.writer) (contents end.writer) (file (orders_taken end.seat)))
        (StopsWriting (orders_taken end.seat) (contents writing.writer) (contents end.writer))
    pub writes : failed_writes end.writer ≡ count_after (failed_writer end.result) (failed_writes writing.writer)
    pub untouched : length (jobs_taken end.seat) ≡ 0 → end.writer ≡ writing.writer
    -- a place was given back only for an order whose codestream was written
    pub returned : WroteFirst (orders_taken end.seat) (contents writing.writer) (contents end.writer) end.returns.returned
    pub returns : sends_on end.returns.sender ≡ sends_on writing.arrivals.returns.sender
