-- What results from recording films in memory side by side, and playing back the recordings.
use Rattle.std.specs.Prelude.{◌≡◌, ◌⊎◌, ◌≤◌, ℕ, List, [], length, Option, Some, Result, MatchResult, Vec}
use Rattle.std.specs.List.{AllByRecursion, AllZip}
use Rattle.std.specs.Borrow.{Bor}
use Rattle.std.specs.declared.alloc.Global.{Global}
use Rattle.ls_frame.specs.declared.device.Counted.{Counted}
use Rattle.ls_frame.specs.View.Devices.{wrapped}
use Rattle.ls_frame.specs.declared.tuning.Tuning.{Tuning}
use Rattle.ls_frame.specs.Picture.{Picture}
use Rattle.ls_frame.specs.Parameters.{Parameters}
use Rattle.ls_frame.specs.Netpbm.{IsImageOf}
use Rattle.ls_film.specs.Film.{most_frames, IsFilm}
use Rattle.ls_film.specs.Coding.{file, default_file}
use Rattle.ls_film.specs.View.Memory.{IsTextOf}
use Rattle.ls_recorder.specs.declared.lane.LaneFault.{LaneFault}
use Rattle.ls_recorder.specs.declared.lane.LaneFault.TheVariants.{Input, Output, NoMemory, Misfit, Lost, NotStarted, TooMany, Tuning as BadTuning}
use Rattle.ls_film.specs.declared.playing.PlayFault.{PlayFault}
use Rattle.ls_recorder.specs.declared.recording.Track.{Track}
use Rattle.ls_roundtrip.specs.declared.round_trip.PlayedBack.{PlayedBack}
use Rattle.ls_pieces.specs.Orders.{Ordered}
use Rattle.ls_film.specs.Showing.{show}
use Rattle.ls_recorder.specs.View.Lanes.{tuned_file, StopsLane}
use Rattle.ls_film.specs.View.Playing.{Plays, IsOutOfMemory, IsCodable, frames_of}

-- every parameter has its default
abbrev pub by_default : Tuning
by_default = record { t1 = 0; t2 = 0; t3 = 0; reset = 0 }

-- A film of n frames comes back: its recording is the codestreams of its frames with its tuning, in order, and the same as coding the film alone
-- gives if the tuning is all defaults; and playing the recording shows the film's frames, unless an allocation failed.
pub record ComesBack (bytes : List ℕ) (tuning : Tuning) (recording shown : List ℕ) (played : Result ℕ PlayFault) (n : ℕ) : Type 0 where
  pub frames : List Picture
  pub count : length frames ≡ n
  pub film : IsFilm IsImageOf bytes frames
  pub recorded : recording ≡ tuned_file tuning frames
  pub coded : tuning ≡ by_default → (alone : List ℕ) (m : ℕ) → IsTextOf default_file bytes alone m → recording ≡ alone
  pub plays : MatchResult played (λ m. (m ≡ n) × (shown ≡ show frames)) IsOutOfMemory

-- The lane of a film stopped: it wasn't started, and the recording is empty; or the recording is what the fault says.
abbrev pub StopsShort : List ℕ → Tuning → List ℕ → LaneFault → Type 0
StopsShort bytes tuning recording fault =
    ((fault ≡ NotStarted) × (recording ≡ []))
    ⊎ ((items : List Ordered) × (left : Option (List ℕ)) × StopsLane tuning items (Some bytes) left (Some []) (Some recording) fault)

-- The recording is the codestreams of some frames, and playing it shows these, unless an allocation failed.
pub record ShowsFront (tuning : Tuning) (recording shown : List ℕ) (played : Result ℕ PlayFault) : Type 0 where
  pub frames : List Picture
  pub recorded : recording ≡ tuned_file tuning frames
  pub plays : MatchResult played (λ m. (m ≡ length frames) × (shown ≡ show frames)) IsOutOfMemory

-- a lane that stopped has recorded complete codestreams, except if its writer failed
abbrev pub PlaysFront : Tuning → List ℕ → List ℕ → Result ℕ PlayFault → LaneFault → Type 0
PlaysFront tuning recording shown played (Input m fault) = ShowsFront tuning recording shown played
PlaysFront tuning recording shown played (Output bytes) = Unit {0}
PlaysFront tuning recording shown played NoMemory = ShowsFront tuning recording shown played
PlaysFront tuning recording shown played (Misfit misfit) = ShowsFront tuning recording shown played
PlaysFront tuning recording shown played Lost = ShowsFront tuning recording shown played
PlaysFront tuning recording shown played NotStarted = ShowsFront tuning recording shown played
PlaysFront tuning recording shown played TooMany = ShowsFront tuning recording shown played
PlaysFront tuning recording shown played (BadTuning m fault) = ShowsFront tuning recording shown played

-- The result for a film: if it was recorded completely, it comes back, else its lane stopped short; and the recording was played (`Plays`): if
-- playing completed, all that it shows was shown, and a fault says what was shown before.
abbrev pub CameOf : Bor (List ℕ) × Tuning → PlayedBack → Type 0
CameOf film r =
    MatchResult r.recorded (ComesBack film.0.now film.1 r.recording.items r.shown.items r.played) (λ fault. StopsShort film.0.now film.1 r.recording.items fault × PlaysFront film.1 r.recording.items r.shown.items r.played fault)
    × Plays r.recording.items r.shown.items r.played

-- each film has its result
abbrev pub ComeBack : List (Bor (List ℕ) × Tuning) → List PlayedBack → Type 0
ComeBack films played_back = AllZip CameOf films played_back

-- ---- the steps

-- If the recording is the codestreams of frames, playing it shows these, unless an allocation failed.
abbrev pub PlaysBack : List ℕ → List ℕ → Result ℕ PlayFault → Type 0
PlaysBack recording shown played = (frames : List (Picture × Parameters)) → length frames ≤ most_frames → AllByRecursion IsCodable frames → recording ≡ file frames
    → MatchResult played (λ n. (n ≡ length frames) × (shown ≡ show (frames_of frames))) IsOutOfMemory

-- a writer into memory; the bytes that it holds
abbrev pub IntoMemory : Type 0
IntoMemory = Counted (Vec ℕ Global)

abbrev pub held_by : IntoMemory → Option (List ℕ)
held_by writer = Some (wrapped writer).items

-- a film with its tuning, and an empty recording
pub record IsUnrecorded (film : Bor (List ℕ) × Tuning) (lane : Bor (List ℕ) × IntoMemory × Tuning) : Type 0 where
  pub reader : lane.0 ≡ film.0
  pub empty : held_by lane.1 ≡ Some []
  pub tuning : lane.2 ≡ film.1

-- the recording of a track, and the result of playing it back
pub record IsPlayed (track : Track (Bor (List ℕ)) IntoMemory) (played_back : PlayedBack) : Type 0 where
  pub recorded : played_back.recorded ≡ track.result
  pub recording : held_by track.writer ≡ Some played_back.recording.items
  pub plays : Plays played_back.recording.items played_back.shown.items played_back.played
