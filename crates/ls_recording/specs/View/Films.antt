-- What became of the films of a recording: of each its lane's track, and the files that were written.
use Rattle.std.specs.Prelude.{◌≡◌, ◌⊎◌, ◌≤◌, ℕ, Bool, true, List, length, Option, Some, None, Result, Ok, Err, MatchResult}
use Rattle.std.specs.List.{AllZip}
use Rattle.std.specs.Borrow.{Bor}
use Rattle.std.specs.Io.KnownBytes.{Appends}
use Rattle.ls_frame.specs.declared.netpbm.NetpbmFault.TheVariants.{Io}
use Rattle.ls_frame.specs.declared.tuning.Tuning.{Tuning}
use Rattle.ls_frame.specs.Picture.{Picture}
use Rattle.ls_frame.specs.Netpbm.{IsImageOf}
use Rattle.ls_film.specs.Film.{most_frames}
use Rattle.ls_film.specs.View.Given.{GaveFilm, BeginsWithFrames}
use Rattle.ls_files.specs.View.Files.{joined_in}
use Rattle.ls_frame.specs.View.Devices.{wrapped}
use Rattle.ls_command.specs.declared.RecordRequest.{RecordRequest}
use Rattle.ls_opening.specs.declared.names.Names.{Names}
use Rattle.ls_opening.specs.View.Devices.{FilmReader, FilmWriter, FilmDevices, AreDevicesOf, finished_of, held_in_pieces, left_of, source_of, target_of}
use Rattle.ls_pieces.specs.Orders.{Ordered}
use Rattle.ls_recorder.specs.declared.faults.RecordFault.{RecordFault}
use Rattle.ls_recorder.specs.declared.faults.RecordFault.TheVariants as refusal
use Rattle.ls_recorder.specs.Sizes.{record_fault}
use Rattle.ls_recorder.specs.declared.lane.LaneFault.{LaneFault}
use Rattle.ls_recorder.specs.declared.lane.LaneFault.TheVariants.{Input, NotStarted}
use Rattle.ls_recorder.specs.declared.recording.Track.{Track}
use Rattle.ls_recording.specs.declared.ending.EndedFiles.{EndedFiles}
use Rattle.ls_recorder.specs.View.Lanes.{Records, StopsLane, AreTuned, tuned_file}

-- No film was recorded, and all are given back: for a reason that the numbers asked for give, or for lack of memory or of a thread.
abbrev pub IsRefused : {X : Type 0} → RecordRequest → List X → RecordFault → List X → Type 0
IsRefused asked films fault back =
    let own : Option RecordFault = record_fault (length films) asked.workers asked.capacity asked.window in
    (back ≡ films) × ((own ≡ Some fault) ⊎ ((own ≡ None) × ((fault ≡ refusal.NoMemory) ⊎ (fault ≡ refusal.NotStarted))))

-- A film was recorded to its end; or up to a failed read, because the program was asked to stop, or since so many frames of it were asked for: then this
-- many frames of it.
abbrev pub IsComplete : Option ℕ → Result ℕ LaneFault → Bool → ℕ → Type 0
IsComplete count result stopped frames = (result ≡ Ok frames) ⊎ ((result ≡ Err (Input frames Io)) × ((stopped ≡ true) ⊎ (count ≡ Some frames)))

-- A film's lane wasn't started; or its track says what was recorded, or where it stopped.
abbrev pub HasTrack : {R W : Type 0} → (R → Option (List ℕ)) → (W → Option (List ℕ)) → R × W × Tuning → Track R W → Type 0
HasTrack remaining contents film track = (items : List Ordered) × ((track.result ≡ Err NotStarted) ⊎ MatchResult track.result
    (Records film.2 items (remaining film.0) (remaining track.reader) (contents film.1) (contents track.writer))
    (StopsLane film.2 items (remaining film.0) (remaining track.reader) (contents film.1) (contents track.writer)))

-- whether a film was read no further since the program was asked to stop
abbrev pub was_stopped : {O F : Type 0} → FilmReader O F → Bool
was_stopped reader = (source_of reader).is_stopped

module _ {O F D : Type 0} where
  -- what is known of the bytes of a recording: of its pieces, one after the other
  abbrev pub held : (F → Option (List ℕ)) → (D → List ℕ) → FilmWriter O F D → Option (List ℕ)
  held contents kept writer = held_in_pieces kept contents (wrapped writer)

  -- the same of the files of a film that has ended
  abbrev pub held_by : (F → Option (List ℕ)) → (D → List ℕ) → EndedFiles O D F → Option (List ℕ)
  held_by contents kept files = joined_in kept contents files.finished files.open.recording

  -- The track of a film that was recorded completely, and its files.
  pub record IsWhole (count : Option ℕ) (track : Track (FilmReader O F) (FilmWriter O F D)) (files : EndedFiles O D F) : Type 0 where
    pub frames : ℕ
    pub complete : IsComplete count track.result (was_stopped track.reader) frames
    pub finished : files.finished ≡ finished_of (wrapped track.writer)
    pub last : files.open.recording ≡ target_of track.writer

  module _ (remaining contents : F → Option (List ℕ)) (kept : D → List ℕ) (count : Option ℕ) where
    -- A film was recorded. If the bytes of its reader are known, they are these frames, as far as the end, as far as the film was read when the program
    -- was asked to stop, or as many as were asked for; and if those of its recording are known, the codestreams of exactly these frames were written to it,
    -- in order. If it is cut into pieces, its bytes are those of the pieces, one after the other.
    pub record IsRecorded (film : FilmDevices O F D) (files : EndedFiles O D F) : Type 0 where
      pub frames : List Picture
      pub few : length frames ≤ most_frames
      pub tuned : AreTuned film.2 frames
      pub reader : FilmReader O F
      pub gave : GaveFilm IsImageOf (left_of remaining film.0) (left_of remaining reader) frames
          ⊎ (((was_stopped reader ≡ true) ⊎ (count ≡ Some (length frames))) × BeginsWithFrames IsImageOf (left_of remaining film.0) frames)
      pub wrote : Appends (held contents kept film.1) (held_by contents kept files) (tuned_file film.2 frames)

module _ {O F D : Type 0} (holds : O → List ℕ → Option (List ℕ) → Type 0) (remaining contents : F → Option (List ℕ)) (kept : D → List ℕ) (opener : O) (tuning : Tuning)
    (count : Option ℕ) where
  -- The films of these names were recorded, in their order: each read from its own file, and written to the file at the path of its own recording, or to
  -- pieces of which that file is the first.
  pub record AreRecorded (names : List Names) : Type 0 where
    pub devices : List (FilmDevices O F D)
    pub files : List (EndedFiles O D F)
    pub opened : AllZip (AreDevicesOf holds remaining kept opener tuning) names devices
    pub recorded : AllZip (IsRecorded remaining contents kept count) devices files

  -- Each of these films was recorded so, under names of which the first is its own.
  pub record HasRecorded (films : List (Bor (List ℕ))) : Type 0 where
    pub names : List Names
    pub named : AllZip (λ film own. own.file.now ≡ film.now) films names
    pub recorded : AreRecorded names
