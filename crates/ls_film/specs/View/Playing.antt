-- Why the playing of a recording stopped, and what had happened then; and what is said where nothing is left unknown.
use Rattle.std.specs.Prelude.{◌≡◌, ◌≢◌, ◌⊎◌, ◌≤◌, ℕ, Bool, true, false, List, [], length, map, Option, Some, Result, IfOk, IfErr, MatchResult}
use Rattle.std.specs.List.{AllByRecursion}
use Rattle.ls_frame.specs.Picture.{Picture, IsFrame}
use Rattle.ls_frame.specs.Parameters.{Parameters, IsLegal}
use Rattle.ls_frame.specs.View.Devices.{count_after}
use Rattle.ls_stream.specs.declared.faults.StreamFault.{StreamFault}
use Rattle.ls_stream.specs.declared.faults.StreamFault.TheVariants as stream
use Rattle.ls_stream.specs.Grammar.{Spells}
use Rattle.ls_film.specs.Coding.{file}
use Rattle.ls_film.specs.Film.{most_frames, IsFilm}
use Rattle.ls_film.specs.View.Codestreams.{BreaksBy}
use Rattle.ls_stream.specs.View.Extents.{IsUndecided}
use Rattle.ls_film.specs.View.Engine.{StopsAtInput, StopsInFrame, StopsAtOutput, StopsAtMost}
use Rattle.ls_film.specs.View.Memory.{HasBytes}
use Rattle.ls_film.specs.declared.engine.Stopped.{Stopped}
use Rattle.ls_film.specs.declared.engine.Stopped.TheVariants as engine
use Rattle.ls_film.specs.declared.codestreams.Unread.{Unread}
use Rattle.ls_film.specs.declared.codestreams.Unread.TheVariants as unread
use Rattle.ls_film.specs.declared.playing.PlayFault.{PlayFault}
use Rattle.ls_film.specs.declared.playing.PlayFault.TheVariants.{Stream, Io, Output, NoMemory, TooMuch}
use Rattle.ls_film.specs.Showing.{show}

-- ---- a recording

-- a fault of codestream m, to a recording
abbrev pub stream_fault : ℕ → StreamFault → PlayFault
stream_fault m stream.Truncated = Stream m stream.Truncated
stream_fault m stream.NotSoi = Stream m stream.NotSoi
stream_fault m stream.BadSegment = Stream m stream.BadSegment
stream_fault m (stream.Unsupported what) = Stream m (stream.Unsupported what)
stream_fault m (stream.BadPresets fault) = Stream m (stream.BadPresets fault)
stream_fault m stream.TooLarge = Stream m stream.TooLarge
stream_fault m (stream.BadCode component) = Stream m (stream.BadCode component)
stream_fault m (stream.LeftoverBits component) = Stream m (stream.LeftoverBits component)
stream_fault m stream.NoMemory = NoMemory

-- the engine's end, to a recording
abbrev pub play_fault : Stopped Unread → PlayFault
play_fault (engine.Input m (unread.Stream fault)) = stream_fault m fault
play_fault (engine.Input m unread.Io) = Io m
play_fault (engine.Output bytes) = Output bytes
play_fault engine.NoMemory = NoMemory
play_fault engine.TooMany = TooMuch

-- What each fault says of the run: of the reader's bytes before and after it, and of the writer's.
abbrev pub Stops : Option (List ℕ) → Option (List ℕ) → Option (List ℕ) → Option (List ℕ) → PlayFault → Type 0
Stops read read' written written' (Stream m fault) = StopsAtInput Spells show read read' written written' m (BreaksBy fault) × (fault ≢ stream.NoMemory)
Stops read read' written written' (Io m) = (stop : StopsInFrame Spells show read read' written written' IsUndecided) × (length stop.frames ≡ m)
Stops read read' written written' (Output bytes) = StopsAtOutput Spells show read read' written written' bytes
Stops read read' written written' NoMemory = (m : ℕ) × StopsAtInput Spells show read read' written written' m HasBytes
Stops read read' written written' TooMuch = StopsAtMost Spells show read read' written written'

-- whether a run failed by its reader's device, and by its writer's
abbrev pub blames_reader : PlayFault → Bool
blames_reader (Stream m fault) = false
blames_reader (Io m) = true
blames_reader (Output bytes) = false
blames_reader NoMemory = false
blames_reader TooMuch = false

abbrev pub blames_writer : PlayFault → Bool
blames_writer (Stream m fault) = false
blames_writer (Io m) = false
blames_writer (Output bytes) = true
blames_writer NoMemory = false
blames_writer TooMuch = false

-- What playing codestream by codestream says of this fault, but for the reader's place: it may be further on, unless a read failed.
abbrev pub StopsAhead : Option (List ℕ) → Option (List ℕ) → Option (List ℕ) → Option (List ℕ) → PlayFault → Type 0
StopsAhead read read' written written' fault =
    (place : Option (List ℕ)) × (blames_reader fault ≡ true → place ≡ read') × Stops read place written written' fault

-- The reads that failed: one where the fault is a failed read; else none, or one after the codestream at fault.
abbrev pub HasReadAhead : ℕ → ℕ → PlayFault → Type 0
HasReadAhead failed failed' fault = (failed' ≡ count_after (blames_reader fault) failed) ⊎ (failed' ≡ count_after true failed)

-- ---- in memory

-- The recording is codestreams of n frames, and out shows these.
pub record IsShownOf (recording out : List ℕ) (n : ℕ) : Type 0 where
  pub frames : List Picture
  pub count : length frames ≡ n
  pub few : length frames ≤ most_frames
  pub whole : IsFilm Spells recording frames
  pub shown : out ≡ show frames

-- An allocation failed, for a frame or for what is written.
abbrev pub IsOutOfMemory : PlayFault → Type 0
IsOutOfMemory (Stream m fault) = ⊥
IsOutOfMemory (Io m) = ⊥
IsOutOfMemory (Output bytes) = Unit {0}
IsOutOfMemory NoMemory = Unit {0}
IsOutOfMemory TooMuch = ⊥

-- a frame with parameters by which it may be coded
pub record IsCodable (one : Picture × Parameters) : Type 0 where
  pub frame : IsFrame one.0
  pub legal : IsLegal one.1
  pub maxval : one.1.maxval ≡ one.0.maxval

-- the frames alone
abbrev pub frames_of : List (Picture × Parameters) → List Picture
frames_of frames = map (λ one. one.0) frames

-- What the playing of a recording in memory ended in, and what it shows.
pub record Plays (recording shown : List ℕ) (result : Result ℕ PlayFault) : Type 0 where
  pub completes : IfOk result (IsShownOf recording shown)
  pub stops : IfErr result (λ fault. (left : Option (List ℕ)) × Stops (Some recording) left (Some []) (Some shown) fault)
  pub device : IfErr result (λ fault. blames_reader fault ≡ false)
  pub of_frames : (frames : List Picture) → length frames ≤ most_frames → IsFilm Spells recording frames
      → MatchResult result (λ n. (n ≡ length frames) × (shown ≡ show frames)) IsOutOfMemory
  pub recorded : (frames : List (Picture × Parameters)) → length frames ≤ most_frames → AllByRecursion IsCodable frames → recording ≡ file frames
      → MatchResult result (λ n. (n ≡ length frames) × (shown ≡ show (frames_of frames))) IsOutOfMemory
