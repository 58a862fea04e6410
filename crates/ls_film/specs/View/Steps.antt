-- Where the engine stops, whatever its images are, and what its steps say then. What an image of a frame is, and what a fault says of the
-- known bytes from its place on and of those that the reader has left, are parameters.
use Rattle.std.specs.Prelude.{◌≡◌, ℕ, ◌+◌, ◌<◌, Bool, true, false, List, length, take, Option, Result, Ok, Err}
use Rattle.std.specs.Io.KnownBytes.{Appends}
use Rattle.ls_frame.specs.Picture.{Picture}
use Rattle.ls_film.specs.View.Engine.{HasRun, StopsAtOutput, StopsInFrame, StopsAtMost}
use Rattle.ls_film.specs.declared.engine.Stopped.{Stopped}
use Rattle.ls_film.specs.declared.engine.Stopped.TheVariants.{Input, Output, NoMemory, TooMany}

-- whether a call failed because a device did, which its fault says
abbrev pub failed_by : {E X : Type 0} → (E → Bool) → Result X E → Bool
failed_by blames (Ok x) = false
failed_by blames (Err fault) = blames fault

-- whether a run failed because a read did, and because a write did
abbrev pub blames_reader : {E : Type 0} → (E → Bool) → Stopped E → Bool
blames_reader of_device (Input m fault) = of_device fault
blames_reader of_device (Output bytes) = false
blames_reader of_device NoMemory = false
blames_reader of_device TooMany = false

abbrev pub blames_writer : {E : Type 0} → Stopped E → Bool
blames_writer (Input m fault) = false
blames_writer (Output bytes) = true
blames_writer NoMemory = false
blames_writer TooMany = false

-- an image of some frame
abbrev pub IsSomeImage : (List ℕ → Picture → Type 0) → List ℕ → Type 0
IsSomeImage IsImage bytes = (f : Picture) × IsImage bytes f

module _ {E : Type 0} (IsImage : List ℕ → Picture → Type 0) (Unread : E → Option (List ℕ) → Option (List ℕ) → Type 0) where
  -- what each stop says of the bytes from the source's place on before and after the run, of those that its reader has left, and of the writer's
  abbrev pub HasStopped : (List Picture → List ℕ) → Option (List ℕ) → Option (List ℕ) → Option (List ℕ) → Option (List ℕ) → Option (List ℕ) → Stopped E → Type 0
  HasStopped text place place' read' written written' (Input m fault) =
      (mid : Option (List ℕ)) × (bytes : ℕ) × HasRun IsImage text place mid written written' m bytes × Unread fault mid read'
  HasStopped text place place' read' written written' (Output bytes) = StopsAtOutput IsImage text place place' written written' bytes
  HasStopped text place place' read' written written' NoMemory = StopsInFrame IsImage text place place' written written' (IsSomeImage IsImage)
  HasStopped text place place' read' written written' TooMany = StopsAtMost IsImage text place place' written written'

-- what a stop at a chunk, written after this many bytes of text, says: only the first bytes of the chunk were written
abbrev pub StopsChunk : {E : Type 0} → Option (List ℕ) → Option (List ℕ) → ℕ → List ℕ → Stopped E → Type 0
StopsChunk written written' bytes chunk (Input m fault) = ⊥
StopsChunk written written' bytes chunk (Output n) = (here : ℕ) × (n ≡ bytes + here) × (here < length chunk) × Appends written written' (take here chunk)
StopsChunk written written' bytes chunk NoMemory = ⊥
StopsChunk written written' bytes chunk TooMany = ⊥
