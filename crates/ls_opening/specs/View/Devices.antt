-- What the lane of a film is given: the reader of its file, and the writer to the file of its recording, or to pieces of it, and to the index of each.
use Rattle.std.specs.Prelude.{◌≡◌, ◌⊎◌, ℕ, List, [], Option, None, string_bytes}
use Rattle.ls_frame.specs.declared.buffered.Buffered.{Buffered}
use Rattle.ls_frame.specs.declared.device.Counted.{Counted}
use Rattle.ls_frame.specs.declared.tuning.Tuning.{Tuning}
use Rattle.ls_frame.specs.View.Chunks.{inner_reader}
use Rattle.ls_frame.specs.View.Devices.{wrapped}
use Rattle.ls_files.specs.declared.source.Source.{Source}
use Rattle.ls_files.specs.declared.target.Target.{Target}
use Rattle.ls_files.specs.View.Files.{path_of_target, joined_in}
use Rattle.ls_archive.specs.View.Following.{recording_of}
use Rattle.ls_console.specs.View.Readers.{unread}
use Rattle.ls_opening.specs.declared.limited.Limited.{Limited}
use Rattle.ls_opening.specs.declared.names.Names.{Names}
use Rattle.ls_opening.specs.declared.pieces.Pieces.{Pieces}

module _ {O F D : Type 0} where
  -- the file of the piece that is written
  abbrev pub last_of : Pieces O D F → Target O F
  last_of pieces = wrapped (recording_of pieces.piece)

  -- the finished pieces
  abbrev pub finished_of : Pieces O D F → D
  finished_of pieces = pieces.finished

  module _ (kept : D → List ℕ) where
    -- what is known of the bytes of finished pieces
    abbrev pub kept_of : Pieces O D F → List ℕ
    kept_of pieces = kept (finished_of pieces)

    -- what is known of the bytes of a recording: of its pieces, one after the other
    abbrev pub held_in_pieces : (F → Option (List ℕ)) → Pieces O D F → Option (List ℕ)
    held_in_pieces contents pieces = joined_in kept contents (finished_of pieces) (last_of pieces)

-- the reader of a film, which may be limited; the writer of its recording; and both with the film's tuning
abbrev pub FilmReader : (O F : Type 0) → Type 0
FilmReader O F = Limited (Buffered (Counted (Source O F)))

abbrev pub FilmWriter : (O F D : Type 0) → Type 0
FilmWriter O F D = Counted (Pieces O D F)

abbrev pub FilmDevices : (O F D : Type 0) → Type 0
FilmDevices O F D = FilmReader O F × FilmWriter O F D × Tuning

module _ {O F : Type 0} where
  -- the file that a film is read from
  abbrev pub source_of : FilmReader O F → Source O F
  source_of reader = wrapped (inner_reader reader.reader)

  -- what is known of the bytes that a film's reader has left
  abbrev pub left_of : (F → Option (List ℕ)) → FilmReader O F → Option (List ℕ)
  left_of remaining reader = unread remaining reader.reader

module _ {O F D : Type 0} where
  -- the file that a recording is written to, or the last piece of it
  abbrev pub target_of : FilmWriter O F D → Target O F
  target_of writer = last_of (wrapped writer)

  -- A writer is for the film of these names: it writes to the file at the path of its recording, or to pieces of which that file is the first.
  abbrev pub IsWriterFor : (D → List ℕ) → Names → FilmWriter O F D → Type 0
  IsWriterFor kept names writer = (path_of_target (target_of writer) ≡ string_bytes names.recording) × (kept_of kept (wrapped writer) ≡ [])

module _ {O F D : Type 0} (holds : O → List ℕ → Option (List ℕ) → Type 0) (remaining : F → Option (List ℕ)) (kept : D → List ℕ) (opener : O) (tuning : Tuning) where
  -- The devices of the film of these names: the reader has what the file system says of the file at the film's path, or nothing is known of that yet, as
  -- of a pipe that isn't open; the writer writes to the file at the path of its recording, or to pieces of which that file is the first; and the tuning is
  -- this one.
  pub record AreDevicesOf (names : Names) (devices : FilmDevices O F D) : Type 0 where
    pub film : (left_of remaining devices.0 ≡ None) ⊎ holds opener names.file.now (left_of remaining devices.0)
    pub recording : IsWriterFor kept names devices.1
    pub tuning_is : devices.2 ≡ tuning
