-- A part of a recording: the codestreams before it are passed over by their markers, and its frames are shown.
use Rattle.std.specs.Prelude.{◌≡◌, ◌≢◌, ◌⊎◌, ◌<◌, ◌≤◌, ◌+◌, ℕ, Bool, false, List, [], ◌∷◌, ◌++◌, length, take, drop, Option, None, Some, Result, Ok, Err}
use Rattle.std.specs.Io.KnownBytes.{Appends}
use Rattle.std.specs.List.{AllByRecursion}
use Rattle.ls_frame.specs.Picture.{Picture, IsFrame}
use Rattle.ls_frame.specs.View.Known.{Tells, Gave, HadBytes, known}
use Rattle.ls_stream.specs.declared.faults.StreamFault.{StreamFault}
use Rattle.ls_stream.specs.declared.faults.StreamFault.TheVariants as stream
use Rattle.ls_stream.specs.Grammar.{Spells}
use Rattle.ls_stream.specs.View.Extents.{IsNext}
use Rattle.ls_film.specs.declared.part.PartFault.{PartFault}
use Rattle.ls_film.specs.declared.part.PartFault.TheVariants.{Play, TooFew}
use Rattle.ls_film.specs.declared.playing.PlayFault.{PlayFault}
use Rattle.ls_film.specs.declared.playing.PlayFault.TheVariants.{Stream, Io, Output, NoMemory, TooMuch}
use Rattle.ls_film.specs.Showing.{show}
use Rattle.ls_film.specs.View.Given.{GaveFrames}
use Rattle.ls_film.specs.View.Codestreams.{BreaksBy, FailsReading, IsOutlined}
use Rattle.ls_film.specs.View.Playing.{Stops, blames_reader as reader_at_fault, blames_writer as writer_at_fault}
use Rattle.ls_film.specs.View.Steps.{failed_by}

-- ---- codestreams that are passed over

abbrev pub joined : List (List ℕ) → List ℕ
joined [] = []
joined (codestream ∷ more) = codestream ++ joined more

-- Each is the next codestream, by its markers, of the bytes from its start on, and has no fault in its markers and headers; rest follows the last one.
abbrev pub ArePassed : List (List ℕ) → List ℕ → Type 0
ArePassed [] rest = Unit {0}
ArePassed (codestream ∷ more) rest = IsNext codestream (joined more ++ rest) × IsOutlined codestream × ArePassed more rest

-- The reader gave n codestreams, by their markers.
abbrev pub GavePassed : Option (List ℕ) → Option (List ℕ) → ℕ → Type 0
GavePassed old new n = Gave old new (λ bytes. (streams : List (List ℕ)) × (length streams ≡ n) × (bytes ≡ joined streams) × ArePassed streams (known new))

-- Codestream m can't be passed over: what is left begins with no codestream of a frame, and has this fault; or a read failed in it; or an allocation failed
-- for it.
abbrev pub IsFaultAt : ℕ → Option (List ℕ) → Option (List ℕ) → PlayFault → Type 0
IsFaultAt m left read' fault =
    ((cause : StreamFault) × (fault ≡ Stream m cause) × (cause ≢ stream.NoMemory) × (Tells left → BreaksBy cause (known left)))
    ⊎ ((fault ≡ Io 0) × FailsReading left read') ⊎ ((fault ≡ NoMemory) × HadBytes left)

-- Passing over the first codestreams stopped at codestream m.
pub record StopsPassing (read read' : Option (List ℕ)) (first : ℕ) (fault : PlayFault) : Type 0 where
  pub m : ℕ
  pub before : m < first
  pub mid : Option (List ℕ)
  pub passed : GavePassed read mid m
  pub fault_is : IsFaultAt m mid read' fault

-- ---- the part

-- A recording of m frames is too short for the part from first to last: it lacks the last frame, or, if the part goes to the end, the
-- first.
abbrev pub LacksPart : ℕ → Option ℕ → ℕ → Type 0
LacksPart first None m = m ≤ first
LacksPart first (Some last) m = m ≤ last

module _ (read read' written written' : Option (List ℕ)) where
  -- The reader gave codestreams of n frames, and the images of these were written and nothing else.
  pub record ShowsNext (n : ℕ) : Type 0 where
    pub frames : List Picture
    pub count : length frames ≡ n
    pub lawful : AllByRecursion IsFrame frames
    pub gave : GaveFrames Spells read read' frames
    pub wrote : Appends written written' (show frames)

module _ (read read' written written' : Option (List ℕ)) where
  -- The first codestreams were passed over, and n frames after them were shown.
  pub record ShowsPart (first n : ℕ) : Type 0 where
    pub mid : Option (List ℕ)
    pub passed : GavePassed read mid first
    pub shows : ShowsNext mid read' written written' n

  -- The recording ended after m codestreams, before the end of the part: the codestreams before the part were passed over, and the others
  -- shown; or it ended before the part, and nothing was shown.
  pub record EndsEarly (first : ℕ) (last : Option ℕ) (m : ℕ) : Type 0 where
    pub passed : ℕ
    pub shown : ℕ
    pub count : m ≡ passed + shown
    pub begun : (passed ≡ first) ⊎ ((passed < first) × (shown ≡ 0))
    pub lacks : LacksPart first last m
    pub shows : ShowsPart passed shown
    pub end : Tells read → known read' ≡ []

-- the number of the codestream at fault
abbrev pub number_in : PlayFault → ℕ
number_in (Stream m fault) = m
number_in (Io m) = 0
number_in (Output bytes) = 0
number_in NoMemory = 0
number_in TooMuch = 0

-- a fault met after the first codestreams, with its codestream numbered from the beginning of the recording
abbrev pub later : ℕ → PlayFault → PlayFault
later first (Stream m fault) = Stream (first + m) fault
later first (Io m) = Io m
later first (Output bytes) = Output bytes
later first NoMemory = NoMemory
later first TooMuch = TooMuch

-- The first codestreams were passed over, and playing what follows them stopped with this fault, but for its number.
pub record StopsShowing (read read' written written' : Option (List ℕ)) (first : ℕ) (fault : PlayFault) : Type 0 where
  pub mid : Option (List ℕ)
  pub passed : GavePassed read mid first
  pub alone : PlayFault
  pub numbered : fault ≡ later first alone
  pub stops : Stops mid read' written written' alone

-- what each fault says of the run
abbrev pub StopsPart : Option (List ℕ) → Option (List ℕ) → Option (List ℕ) → Option (List ℕ) → ℕ → Option ℕ → PartFault → Type 0
StopsPart read read' written written' first last (Play fault) =
    (StopsPassing read read' first fault × Appends written written' []) ⊎ StopsShowing read read' written written' first fault
StopsPart read read' written written' first last (TooFew m) = EndsEarly read read' written written' first last m

-- ---- a recording that is codestreams of frames

-- the fault isn't of a codestream, nor that there are too many
abbrev pub IsNoneOfStreams : PlayFault → Type 0
IsNoneOfStreams (Stream m fault) = ⊥
IsNoneOfStreams (Io m) = Unit {0}
IsNoneOfStreams (Output bytes) = Unit {0}
IsNoneOfStreams NoMemory = Unit {0}
IsNoneOfStreams TooMuch = ⊥

-- The recording is too short for the part: it has m frames, and those from the first on are shown, if any.
pub record IsShortOf (written written' : Option (List ℕ)) (first : ℕ) (last : Option ℕ) (frames : List Picture) (m : ℕ) : Type 0 where
  pub count : m ≡ length frames
  pub lacks : LacksPart first last m
  pub wrote : Appends written written' (show (drop first frames))

-- The result of playing a part of a recording that is codestreams of these frames: n of them, from the first on, are shown; or they are too
-- few, and it says how many there are; or a read, a write or an allocation failed.
abbrev pub IsPartOf : Option (List ℕ) → Option (List ℕ) → ℕ → Option ℕ → List Picture → Result ℕ PartFault → Type 0
IsPartOf written written' first last frames (Ok n) = (first + n ≤ length frames) × Appends written written' (show (take n (drop first frames)))
IsPartOf written written' first last frames (Err (Play fault)) = IsNoneOfStreams fault
IsPartOf written written' first last frames (Err (TooFew m)) = IsShortOf written written' first last frames m

-- ---- failures

-- whether a run failed because a read did, and because a write did
abbrev pub blames_reader : PartFault → Bool
blames_reader (Play fault) = reader_at_fault fault
blames_reader (TooFew m) = false

abbrev pub blames_writer : PartFault → Bool
blames_writer (Play fault) = writer_at_fault fault
blames_writer (TooFew m) = false

-- whether playing failed because a read did, and because a write did
abbrev pub failed_play : {X : Type 0} → Result X PlayFault → Bool
failed_play result = failed_by reader_at_fault result

abbrev pub failed_show : {X : Type 0} → Result X PlayFault → Bool
failed_show result = failed_by writer_at_fault result
