-- What a lane did: the known bytes of its reader and of its writer, before and after, and the orders that its seat put.
use Rattle.std.specs.Prelude.{◌≡◌, ◌≢◌, ◌⊎◌, ℕ, ◌+◌, ◌<◌, ◌≤◌, Bool, true, false, IsTrue, List, [], ◌∷◌, ◌++◌, length, map, take, Option, Some, Result, Ok, Err, IfOk, IfErr, MatchResult}
use Rattle.std.specs.Io.KnownBytes.{Appends}
use Rattle.std.specs.List.{AllByRecursion}
use Rattle.ls_frame.specs.declared.tuning.Tuning.{Tuning}
use Rattle.ls_frame.specs.declared.presets.PresetFault.{PresetFault}
use Rattle.ls_frame.specs.declared.netpbm.NetpbmFault.{NetpbmFault}
use Rattle.ls_frame.specs.declared.netpbm.NetpbmFault.TheVariants as netpbm
use Rattle.ls_frame.specs.Picture.{Picture, IsFrame}
use Rattle.ls_frame.specs.Parameters.{explicit_parameters}
use Rattle.ls_frame.specs.Tuning.{tuned}
use Rattle.ls_frame.specs.Netpbm.{IsImageOf}
use Rattle.ls_frame.specs.Faults.{IsBroken, blames_bytes, blames_device}
use Rattle.ls_frame.specs.View.Devices.{risen, count_after}
use Rattle.ls_frame.specs.View.Known.{Tells, Gave, known}
use Rattle.ls_film.specs.Film.{most_frames}
use Rattle.ls_film.specs.Coding.{file}
use Rattle.ls_film.specs.View.Given.{GaveFrames, BeginsWithFrames}
use Rattle.ls_film.specs.View.Engine.{Completes, StopsAtInput, StopsAtMost}
use Rattle.ls_film.specs.View.Stopping.{IsHeadingOrImage}
use Rattle.ls_pieces.specs.Orders.{Ordered}
use Rattle.ls_pieces.specs.declared.collector.Slot.{Slot}
use Rattle.ls_pieces.specs.Collecting.{Collection, misfit_of}
use Rattle.ls_pieces.specs.declared.collector.Misfit.{Misfit as Cause}
use Rattle.ls_queue.specs.declared.replies.Job.{Job}
use Rattle.ls_queue.specs.declared.running.Queue.{Queue}
use Rattle.ls_queue.specs.View.Running.{IsEnded, items_ended}
use Rattle.ls_recorder.specs.declared.lane.LaneEnd.{LaneEnd}
use Rattle.ls_recorder.specs.declared.lane.LaneFault.{LaneFault}
use Rattle.ls_recorder.specs.declared.lane.LaneFault.TheVariants.{Input, Output, NoMemory, Misfit, Lost, NotStarted, TooMany, Tuning as BadTuning}

-- frames with the parameters that a tuning gives for each
abbrev pub with_tuning : Tuning → List Picture → List Ordered
with_tuning tuning frames = map (λ (f : Picture). (f, tuned tuning f.maxval)) frames

-- these are frames within the recorder's limits, even if nothing is known of the reader, and the tuning gives parameters for each
abbrev pub AreTuned : Tuning → List Picture → Type 0
AreTuned tuning frames = AllByRecursion (λ (f : Picture). IsFrame f × (explicit_parameters (tuned tuning f.maxval) ≡ Ok (tuned tuning f.maxval))) frames

-- the items are these frames, each with the parameters that the tuning gives for it
abbrev pub AreOrdersOf : Tuning → List Picture → List Ordered → Type 0
AreOrdersOf tuning frames items = (items ≡ with_tuning tuning frames) × AreTuned tuning frames

-- the codestreams of these frames, joined
abbrev pub tuned_file : Tuning → List Picture → List ℕ
tuned_file tuning frames = file (with_tuning tuning frames)

-- ---- what was put and what was written

module _ (items : List Ordered) (start now : Option (List ℕ)) where
  -- exactly the codestreams of the first items were written, perhaps of all
  pub record WroteFront : Type 0 where
    pub count : ℕ
    pub front : count ≤ length items
    pub wrote : Appends start now (file (take count items))

  -- exactly the codestreams of the first items were written, and not of all
  pub record WroteFewer : Type 0 where
    pub count : ℕ
    pub fewer : count < length items
    pub wrote : Appends start now (file (take count items))

  -- exactly the first bytes of the items' codestreams were written, and not all
  pub record WrotePart (bytes : ℕ) : Type 0 where
    pub part : bytes < length (file items)
    pub wrote : Appends start now (take bytes (file items))

  -- the codestreams of the first items were written, of this number of them; perhaps more was
  pub record WroteFirst (count : ℕ) : Type 0 where
    pub few : count ≤ length items
    pub rest : List ℕ
    pub wrote : Appends start now (file (take count items) ++ rest)

  -- the codestreams of all items were written but of the last ones, of which there are at most as many as a window has places
  pub record WroteButWindow (window : ℕ) : Type 0 where
    pub count : ℕ
    pub within : length items ≤ window + count
    pub wrote : WroteFirst count

-- the orders in a collector: booked and not handed out
abbrev pub orders_in : Collection → List Ordered
orders_in c = map (λ (slot : Slot). slot.order) c.slots

-- So far the codestreams of the first items were written, of `bytes` bytes; the others wait in the collector.
pub record IsWriting (items : List Ordered) (start now : Option (List ℕ)) (c : Collection) (bytes : ℕ) : Type 0 where
  pub done : List Ordered
  pub items_are : items ≡ done ++ orders_in c
  pub wrote : Appends start now (file done)
  pub first_is : c.first ≡ length done
  pub bytes_are : bytes ≡ length (file done)

module _ (items : List Ordered) (start now : Option (List ℕ)) where
  -- the collector with the items that wait refused a coded frame for this misfit
  pub record IsMisfit (misfit : Cause) : Type 0 where
    pub collection : Collection
    pub bytes : ℕ
    pub piece : Job Ordered
    pub writing : IsWriting items start now collection bytes
    pub refused : misfit_of collection piece ≡ Some misfit

  -- what a fault of the writing half says
  abbrev pub StopsWriting : LaneFault → Type 0
  StopsWriting (Input m fault) = ⊥
  StopsWriting (Output bytes) = WrotePart items start now bytes
  StopsWriting NoMemory = WroteFront items start now
  StopsWriting (Misfit misfit) = WroteFewer items start now × IsMisfit misfit
  StopsWriting Lost = WroteFewer items start now
  StopsWriting NotStarted = ⊥
  StopsWriting TooMany = most_frames < length items
  StopsWriting (BadTuning m fault) = ⊥

-- after a step of writing the same is true, whatever orders were put and whatever the writer held at the start
abbrev pub GoesOn : Option (List ℕ) → Collection → ℕ → Option (List ℕ) → Collection → ℕ → Type 0
GoesOn now c bytes now' c' bytes' = (items : List Ordered) (start : Option (List ℕ)) → IsWriting items start now c bytes → IsWriting items start now' c' bytes'

-- ---- the next frame

-- what a fault at frame number n says of the reader's bytes
abbrev pub StopsReading : Tuning → Option (List ℕ) → Option (List ℕ) → ℕ → LaneFault → Type 0
StopsReading tuning read read' n (Input m fault) =
    (m ≡ n) × (fault ≢ netpbm.NoMemory) × (IsTrue (blames_bytes fault) → Tells read → IsBroken (known read) fault)
StopsReading tuning read read' n (Output bytes) = ⊥
StopsReading tuning read read' n NoMemory = Gave read read' IsHeadingOrImage
StopsReading tuning read read' n (Misfit misfit) = ⊥
StopsReading tuning read read' n Lost = ⊥
StopsReading tuning read read' n NotStarted = ⊥
StopsReading tuning read read' n TooMany = (n ≡ most_frames) × (last : Picture) × IsFrame last × Gave read read' (λ image. IsImageOf image last)
StopsReading tuning read read' n (BadTuning m fault) =
    (m ≡ n) × (n < most_frames) × (last : Picture) × Gave read read' (λ image. IsImageOf image last) × (explicit_parameters (tuned tuning last.maxval) ≡ Err fault)

-- ---- a lane

module _ (tuning : Tuning) (items : List Ordered) (read read' written written' : Option (List ℕ)) where
  -- The reader is at its end. It gave a film of n frames; all were put, and their codestreams were written.
  pub record Records (n : ℕ) : Type 0 where
    pub run : Completes IsImageOf (tuned_file tuning) read read' written written' n
    pub put : AreOrdersOf tuning run.frames items

  -- the input begins with the frames that were put
  pub record HasPut : Type 0 where
    pub frames : List Picture
    pub few : length frames ≤ most_frames
    pub begins : BeginsWithFrames IsImageOf read frames
    pub put : AreOrdersOf tuning frames items

  -- Frame m can't be read; those before it were put, and their codestreams were written.
  pub record RecordsBefore (m : ℕ) (fault : NetpbmFault) : Type 0 where
    pub run : StopsAtInput IsImageOf (tuned_file tuning) read read' written written' m (λ rest. IsTrue (blames_bytes fault) → IsBroken rest fault)
    pub put : AreOrdersOf tuning run.frames items
    pub known : fault ≢ netpbm.NoMemory

  -- There is one frame too many: those before it were put, and their codestreams were written.
  pub record RecordsMost : Type 0 where
    pub run : StopsAtMost IsImageOf (tuned_file tuning) read read' written written'
    pub put : AreOrdersOf tuning run.frames items

  -- The tuning gives no parameters for frame m; those before it were put, and their codestreams were written.
  pub record RecordsUntuned (m : ℕ) (fault : PresetFault) : Type 0 where
    pub frames : List Picture
    pub last : Picture
    pub count : length frames ≡ m
    pub few : length frames < most_frames
    pub gave : GaveFrames IsImageOf read read' (frames ++ last ∷ [])
    pub fault_is : explicit_parameters (tuned tuning last.maxval) ≡ Err fault
    pub put : AreOrdersOf tuning frames items
    pub wrote : Appends written written' (tuned_file tuning frames)

  -- what each fault says of the lane
  abbrev pub StopsLane : LaneFault → Type 0
  StopsLane (Input m fault) = RecordsBefore m fault
  StopsLane (Output bytes) = HasPut × WrotePart items written written' bytes
  StopsLane NoMemory = HasPut × WroteFront items written written'
  StopsLane (Misfit misfit) = HasPut × WroteFewer items written written' × IsMisfit items written written' misfit
  StopsLane Lost = HasPut × WroteFewer items written written'
  StopsLane NotStarted = ⊥
  StopsLane TooMany = RecordsMost
  StopsLane (BadTuning m fault) = RecordsUntuned m fault

-- ---- devices

-- How many reads failed: one, if the fault blames the reader's device; none, if it is another fault of reading; else none, or one before the lane
-- stopped for a fault of writing.
abbrev pub ReadsSo : LaneFault → ℕ → ℕ → Type 0
ReadsSo (Input m fault) old new = new ≡ count_after (blames_device fault) old
ReadsSo (Output bytes) old new = (new ≡ old) ⊎ (new ≡ risen old)
ReadsSo NoMemory old new = (new ≡ old) ⊎ (new ≡ risen old)
ReadsSo (Misfit misfit) old new = (new ≡ old) ⊎ (new ≡ risen old)
ReadsSo Lost old new = (new ≡ old) ⊎ (new ≡ risen old)
ReadsSo NotStarted old new = new ≡ old
ReadsSo TooMany old new = new ≡ old
ReadsSo (BadTuning m fault) old new = new ≡ old

-- whether a lane's fault blames its reader's device; whether it blames its writer's
abbrev pub blames_reader : LaneFault → Bool
blames_reader (Input m fault) = blames_device fault
blames_reader (Output bytes) = false
blames_reader NoMemory = false
blames_reader (Misfit misfit) = false
blames_reader Lost = false
blames_reader NotStarted = false
blames_reader TooMany = false
blames_reader (BadTuning m fault) = false

abbrev pub blames_writer : LaneFault → Bool
blames_writer (Input m fault) = false
blames_writer (Output bytes) = true
blames_writer NoMemory = false
blames_writer (Misfit misfit) = false
blames_writer Lost = false
blames_writer NotStarted = false
blames_writer TooMany = false
blames_writer (BadTuning m fault) = false

abbrev pub failed_reader : {X : Type 0} → Result X LaneFault → Bool
failed_reader (Ok x) = false
failed_reader (Err fault) = blames_reader fault

abbrev pub failed_writer : {X : Type 0} → Result X LaneFault → Bool
failed_writer (Ok x) = false
failed_writer (Err fault) = blames_writer fault

-- ---- the end of a lane

-- nothing was read, put or written
abbrev pub WasNotStarted : {R W : Type 0} → List Ordered → R → R → W → W → LaneFault → Type 0
WasNotStarted items reader reader' writer writer' fault = (fault ≡ NotStarted) × (items ≡ []) × (reader' ≡ reader) × (writer' ≡ writer)

module _ {R W : Type 0} (remaining : R → Option (List ℕ)) (failed_reads : R → ℕ) (contents : W → Option (List ℕ)) (failed_writes : W → ℕ) where
  -- how the lane of source s ended, with the film of this tuning, reader and writer
  pub record IsLaneEnd (queue : Queue Ordered) (s : ℕ) (tuning : Tuning) (reader : R) (writer : W) (end : LaneEnd R W) : Type 0 where
    -- its source has ended, and counts the items that its seat put
    pub ended : IsEnded queue end.ended
    pub source : end.ended.source ≡ s
    pub count : end.ended.count ≡ length (items_ended end.ended)
    -- after Ok the film was read to its end, its frames are these items, and their codestreams were written
    pub completes : IfOk end.result (Records tuning (items_ended end.ended) (remaining reader) (remaining end.reader) (contents writer) (contents end.writer))
    -- a fault says which frames were put, and what was written of them
    pub stops : IfErr end.result (λ fault. WasNotStarted (items_ended end.ended) reader end.reader writer end.writer fault
        ⊎ StopsLane tuning (items_ended end.ended) (remaining reader) (remaining end.reader) (contents writer) (contents end.writer) fault)
    -- how many calls of the reader failed, and how many of the writer
    pub reads : MatchResult end.result (λ frames. failed_reads end.reader ≡ failed_reads reader) (λ fault. ReadsSo fault (failed_reads reader) (failed_reads end.reader))
    pub writes : failed_writes end.writer ≡ count_after (failed_writer end.result) (failed_writes writer)
