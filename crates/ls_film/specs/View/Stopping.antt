-- Why an engine over a film of Netpbm images stopped, and what had been read and written by then.
use Rattle.std.specs.Prelude.{◌≡◌, ◌≢◌, ℕ, ◌⊎◌, Bool, true, false, IsTrue, List, Option}
use Rattle.ls_frame.specs.declared.netpbm.NetpbmFault.{NetpbmFault}
use Rattle.ls_frame.specs.declared.netpbm.NetpbmFault.TheVariants as netpbm
use Rattle.ls_frame.specs.Picture.{Picture}
use Rattle.ls_frame.specs.Netpbm.{IsImageOf, IsWholeHeading}
use Rattle.ls_frame.specs.Faults.{IsBroken, blames_bytes, blames_device}
use Rattle.ls_frame.specs.View.Known.{Tells, Gave, known}
use Rattle.ls_film.specs.View.Engine.{StopsAtInput, StopsAtOutput, StopsInFrame, StopsAtMost}
use Rattle.ls_film.specs.View.Steps.{IsSomeImage}
use Rattle.ls_film.specs.declared.engine.Stopped.{Stopped}
use Rattle.ls_film.specs.declared.engine.Stopped.TheVariants as engine
use Rattle.ls_film.specs.declared.faults.FilmFault.{FilmFault}
use Rattle.ls_film.specs.declared.faults.FilmFault.TheVariants.{Input, Output, NoMemory, TooMany}

-- what a fault of the next image says of the reader's bytes: they are malformed; or a complete header was read, and an allocation failed
pub record IsUnread (fault : NetpbmFault) (read read' : Option (List ℕ)) : Type 0 where
  pub broken : IsTrue (blames_bytes fault) → Tells read → IsBroken (known read) fault
  pub memory : fault ≡ netpbm.NoMemory → Gave read read' IsWholeHeading

-- the fault of an engine over a film for a fault of image m
abbrev pub input_fault : ℕ → NetpbmFault → FilmFault
input_fault m netpbm.BadMagic = Input m netpbm.BadMagic
input_fault m netpbm.BadHeader = Input m netpbm.BadHeader
input_fault m netpbm.HeaderTooLong = Input m netpbm.HeaderTooLong
input_fault m netpbm.SizeOutOfRange = Input m netpbm.SizeOutOfRange
input_fault m netpbm.MaxvalOutOfRange = Input m netpbm.MaxvalOutOfRange
input_fault m netpbm.SampleTooLarge = Input m netpbm.SampleTooLarge
input_fault m netpbm.Truncated = Input m netpbm.Truncated
input_fault m netpbm.Io = Input m netpbm.Io
input_fault m netpbm.NoMemory = NoMemory

-- the fault of an engine over a film for why the engine stopped
abbrev pub film_fault : Stopped NetpbmFault → FilmFault
film_fault (engine.Input m fault) = input_fault m fault
film_fault (engine.Output bytes) = Output bytes
film_fault engine.NoMemory = NoMemory
film_fault engine.TooMany = TooMany

-- the bytes read of the frame for which an allocation failed: its header, or all of it
abbrev pub IsHeadingOrImage : List ℕ → Type 0
IsHeadingOrImage bytes = IsWholeHeading bytes ⊎ IsSomeImage IsImageOf bytes

-- what each fault says of the reader's bytes before and after the run, and of the writer's
abbrev pub Stops : (List Picture → List ℕ) → Option (List ℕ) → Option (List ℕ) → Option (List ℕ) → Option (List ℕ) → FilmFault → Type 0
Stops text read read' written written' (Input m fault) =
    StopsAtInput IsImageOf text read read' written written' m (λ rest. IsTrue (blames_bytes fault) → IsBroken rest fault) × (fault ≢ netpbm.NoMemory)
Stops text read read' written written' (Output bytes) = StopsAtOutput IsImageOf text read read' written written' bytes
Stops text read read' written written' NoMemory = StopsInFrame IsImageOf text read read' written written' IsHeadingOrImage
Stops text read read' written written' TooMany = StopsAtMost IsImageOf text read read' written written'

-- whether a run failed because a read did, and because a write did
abbrev pub blames_reader : FilmFault → Bool
blames_reader (Input m fault) = blames_device fault
blames_reader (Output bytes) = false
blames_reader NoMemory = false
blames_reader TooMany = false

abbrev pub blames_writer : FilmFault → Bool
blames_writer (Input m fault) = false
blames_writer (Output bytes) = true
blames_writer NoMemory = false
blames_writer TooMany = false
