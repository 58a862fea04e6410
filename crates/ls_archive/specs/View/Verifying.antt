-- What a comparison finds, and where it may stop. The film's known bytes before and after come first, then the recording's.
use Rattle.std.specs.Prelude.{◌≡◌, ◌≢◌, ◌⊎◌, ℕ, ◌≤◌, Bool, true, false, IsTrue, if◌then◌else◌, List, [], ◌∷◌, ◌++◌, length, Option, Some, None, Result, Ok, Err}
use Rattle.ls_frame.specs.declared.netpbm.NetpbmFault.{NetpbmFault}
use Rattle.ls_frame.specs.declared.netpbm.NetpbmFault.TheVariants as netpbm
use Rattle.ls_frame.specs.Picture.{Picture, same_picture}
use Rattle.ls_frame.specs.Netpbm.{IsImageOf, BeginsWithHeading}
use Rattle.ls_frame.specs.Faults.{IsBroken, blames_bytes, blames_device}
use Rattle.ls_frame.specs.View.Known.{Tells, Gave, WasAtEnd, known}
use Rattle.ls_stream.specs.declared.faults.StreamFault.{StreamFault}
use Rattle.ls_stream.specs.declared.faults.StreamFault.TheVariants as stream
use Rattle.ls_stream.specs.Grammar.{Spells}
use Rattle.ls_film.specs.Film.{most_frames}
use Rattle.ls_film.specs.View.Given.{GaveFrames, GaveFramesAnd, GaveFilm, IsBrokenAfter}
use Rattle.ls_film.specs.View.Memory.{AnyBytes, HasBytes}
use Rattle.ls_film.specs.View.Codestreams.{BreaksBy, FailsReading}
use Rattle.ls_stream.specs.View.Extents.{IsUndecided}
use Rattle.ls_archive.specs.declared.faults.VerifyFault.{VerifyFault}
use Rattle.ls_archive.specs.declared.faults.VerifyFault.TheVariants.{Film, Recording, RecordingIo, NoMemory, TooMany}
use Rattle.ls_archive.specs.declared.verifying.Difference.{Difference}
use Rattle.ls_archive.specs.declared.verifying.Verdict.{Verdict}
use Rattle.ls_archive.specs.declared.verifying.Verdict.TheVariants.{Same, Differs, Missing, Extra}
use Rattle.ls_archive.specs.Verify.{difference_of}

-- the bytes begin with an image of some frame
abbrev pub BeginsWithImage : (List ℕ → Picture → Type 0) → List ℕ → Type 0
BeginsWithImage IsImage bytes = (f : Picture) × (image : List ℕ) × (rest : List ℕ) × (bytes ≡ image ++ rest) × IsImage image f

module _ (film film' recording recording' : Option (List ℕ)) where
  -- So far both gave the same n frames.
  pub record HaveRun (n : ℕ) : Type 0 where
    pub frames : List Picture
    pub count : length frames ≡ n
    pub few : length frames ≤ most_frames
    pub film_gave : GaveFrames IsImageOf film film' frames
    pub recording_gave : GaveFrames Spells recording recording' frames

  -- Both are at their end, and gave the same n frames.
  pub record AreSame (n : ℕ) : Type 0 where
    pub frames : List Picture
    pub count : length frames ≡ n
    pub few : length frames ≤ most_frames
    pub film_gave : GaveFilm IsImageOf film film' frames
    pub recording_gave : GaveFilm Spells recording recording' frames

  -- Both gave the same n frames, and then one frame each; these two differ in this.
  pub record AreApart (n : ℕ) (what : Difference) : Type 0 where
    pub frames : List Picture
    pub f : Picture
    pub g : Picture
    pub count : length frames ≡ n
    pub differ : f ≢ g
    pub what_is : what ≡ difference_of f g
    pub film_gave : GaveFrames IsImageOf film film' (frames ++ f ∷ [])
    pub recording_gave : GaveFrames Spells recording recording' (frames ++ g ∷ [])

  -- The recording is at its end, and the film gave its n frames and one more.
  pub record IsMissing (n : ℕ) : Type 0 where
    pub frames : List Picture
    pub f : Picture
    pub count : length frames ≡ n
    pub film_gave : GaveFrames IsImageOf film film' (frames ++ f ∷ [])
    pub recording_gave : GaveFilm Spells recording recording' frames

  -- The film is at its end, and the recording gave its n frames and one more.
  pub record IsExtra (n : ℕ) : Type 0 where
    pub frames : List Picture
    pub g : Picture
    pub count : length frames ≡ n
    pub film_gave : GaveFilm IsImageOf film film' frames
    pub recording_gave : GaveFrames Spells recording recording' (frames ++ g ∷ [])

  -- what each verdict says
  abbrev pub Finds : Verdict → Type 0
  Finds (Same n) = AreSame n
  Finds (Differs n what) = AreApart n what
  Finds (Missing n) = IsMissing n
  Finds (Extra n) = IsExtra n

module _ (film recording : Option (List ℕ)) where
  -- Both begin with the same m frames; P holds of what follows these in the film, and Q of what follows them in the recording.
  pub record StopsAfter (m : ℕ) (P Q : List ℕ → Type 0) : Type 0 where
    pub frames : List Picture
    pub count : length frames ≡ m
    pub few : length frames ≤ most_frames
    pub film_begins : IsBrokenAfter IsImageOf film frames P
    pub recording_begins : IsBrokenAfter Spells recording frames Q

  -- What each fault says: an image or a codestream is malformed; a read failed; an allocation failed, after a complete header of an image
  -- or for a codestream; there is one frame too many.
  abbrev pub Stops : VerifyFault → Type 0
  Stops (Film m fault) = StopsAfter m (λ rest. IsTrue (blames_bytes fault) → IsBroken rest fault) AnyBytes × (fault ≢ netpbm.NoMemory)
  Stops (Recording m fault) = StopsAfter m AnyBytes (BreaksBy fault) × (fault ≢ stream.NoMemory)
  Stops (RecordingIo m) = StopsAfter m AnyBytes AnyBytes
  Stops NoMemory = (m : ℕ) × (StopsAfter m BeginsWithHeading AnyBytes ⊎ StopsAfter m AnyBytes HasBytes)
  Stops TooMany = StopsAfter most_frames (BeginsWithImage IsImageOf) AnyBytes ⊎ StopsAfter most_frames AnyBytes (BeginsWithImage Spells)

-- ---- the steps

-- the reader gave an image of this frame; or, for none, was at its end
abbrev pub GaveNext : (List ℕ → Picture → Type 0) → Option (List ℕ) → Option (List ℕ) → Option Picture → Type 0
GaveNext IsImage old new (Some f) = Gave old new (λ bytes. IsImage bytes f)
GaveNext IsImage old new None = WasAtEnd old new

-- the verdict on frame n of film and recording, or on the end of either; none if both have a frame and these are equal
abbrev pub verdict_at : ℕ → Option Picture → Option Picture → Option Verdict
verdict_at n (Some f) (Some g) = if same_picture f g then None else Some (Differs n (difference_of f g))
verdict_at n (Some f) None = Some (Missing n)
verdict_at n None (Some g) = Some (Extra n)
verdict_at n None None = Some (Same n)

-- Both gave their next frame or end, and this is the verdict on these.
pub record IsCompared (film film' recording recording' : Option (List ℕ)) (n : ℕ) (verdict : Option Verdict) : Type 0 where
  pub image : Option Picture
  pub coded : Option Picture
  pub film_gave : GaveNext IsImageOf film film' image
  pub recording_gave : GaveNext Spells recording recording' coded
  pub is : verdict ≡ verdict_at n image coded

-- the result after the most frames of a film: there both must end
abbrev pub at_most : Option Verdict → Result Verdict VerifyFault
at_most None = Err TooMany
at_most (Some (Same n)) = Ok (Same n)
at_most (Some (Differs n what)) = Err TooMany
at_most (Some (Missing n)) = Err TooMany
at_most (Some (Extra n)) = Err TooMany

-- the fault of a comparison for a fault of the film's frame m
abbrev pub film_fault : ℕ → NetpbmFault → VerifyFault
film_fault m netpbm.BadMagic = Film m netpbm.BadMagic
film_fault m netpbm.BadHeader = Film m netpbm.BadHeader
film_fault m netpbm.HeaderTooLong = Film m netpbm.HeaderTooLong
film_fault m netpbm.SizeOutOfRange = Film m netpbm.SizeOutOfRange
film_fault m netpbm.MaxvalOutOfRange = Film m netpbm.MaxvalOutOfRange
film_fault m netpbm.SampleTooLarge = Film m netpbm.SampleTooLarge
film_fault m netpbm.Truncated = Film m netpbm.Truncated
film_fault m netpbm.Io = Film m netpbm.Io
film_fault m netpbm.NoMemory = NoMemory

-- the fault of a comparison for a fault of codestream m
abbrev pub recording_fault : ℕ → StreamFault → VerifyFault
recording_fault m stream.Truncated = Recording m stream.Truncated
recording_fault m stream.NotSoi = Recording m stream.NotSoi
recording_fault m stream.BadSegment = Recording m stream.BadSegment
recording_fault m (stream.Unsupported what) = Recording m (stream.Unsupported what)
recording_fault m (stream.BadPresets fault) = Recording m (stream.BadPresets fault)
recording_fault m stream.TooLarge = Recording m stream.TooLarge
recording_fault m (stream.BadCode component) = Recording m (stream.BadCode component)
recording_fault m (stream.LeftoverBits component) = Recording m (stream.LeftoverBits component)
recording_fault m stream.NoMemory = NoMemory

-- what a stop at the film's frame n says of the film's bytes
abbrev pub StopsFilm : Option (List ℕ) → ℕ → VerifyFault → Type 0
StopsFilm film n (Film m fault) = (m ≡ n) × (fault ≢ netpbm.NoMemory) × (Tells film → IsTrue (blames_bytes fault) → IsBroken (known film) fault)
StopsFilm film n (Recording m fault) = ⊥
StopsFilm film n (RecordingIo m) = ⊥
StopsFilm film n NoMemory = Tells film → BeginsWithHeading (known film)
StopsFilm film n TooMany = ⊥

-- what a stop at codestream n says of the recording's bytes
abbrev pub StopsRecording : Option (List ℕ) → ℕ → VerifyFault → Type 0
StopsRecording recording n (Film m fault) = ⊥
StopsRecording recording n (Recording m fault) = (m ≡ n) × (fault ≢ stream.NoMemory) × (Tells recording → BreaksBy fault (known recording))
StopsRecording recording n (RecordingIo m) = m ≡ n
StopsRecording recording n NoMemory = Tells recording → HasBytes (known recording)
StopsRecording recording n TooMany = ⊥

-- ---- numbers

-- the number that a verdict says, and the number of the frame at fault
abbrev pub number_of : Verdict → ℕ
number_of (Same n) = n
number_of (Differs n what) = n
number_of (Missing n) = n
number_of (Extra n) = n

abbrev pub number_in : VerifyFault → ℕ
number_in (Film m fault) = m
number_in (Recording m fault) = m
number_in (RecordingIo m) = m
number_in NoMemory = 0
number_in TooMany = 0

-- ---- failed reads

-- what a failed read of the recording says: it gave codestreams of as many frames as were compared, and no whole one after them
abbrev pub FailsAfter : Option (List ℕ) → Option (List ℕ) → VerifyFault → Type 0
FailsAfter recording recording' (Film m fault) = Unit {0}
FailsAfter recording recording' (Recording m fault) = Unit {0}
FailsAfter recording recording' (RecordingIo m) = (frames : List Picture) × (length frames ≡ m) × GaveFramesAnd Spells recording recording' frames IsUndecided
FailsAfter recording recording' NoMemory = Unit {0}
FailsAfter recording recording' TooMany = Unit {0}

-- the same at codestream n
abbrev pub FailsNext : Option (List ℕ) → Option (List ℕ) → ℕ → VerifyFault → Type 0
FailsNext recording recording' n (Film m fault) = Unit {0}
FailsNext recording recording' n (Recording m fault) = Unit {0}
FailsNext recording recording' n (RecordingIo m) = (m ≡ n) × FailsReading recording recording'
FailsNext recording recording' n NoMemory = Unit {0}
FailsNext recording recording' n TooMany = Unit {0}

-- ---- devices

-- whether a comparison failed because a read of the film did, and because a read of the recording did
abbrev pub blames_film : VerifyFault → Bool
blames_film (Film m fault) = blames_device fault
blames_film (Recording m fault) = false
blames_film (RecordingIo m) = false
blames_film NoMemory = false
blames_film TooMany = false

abbrev pub blames_recording : VerifyFault → Bool
blames_recording (Film m fault) = false
blames_recording (Recording m fault) = false
blames_recording (RecordingIo m) = true
blames_recording NoMemory = false
blames_recording TooMany = false

-- ---- in memory

-- what each verdict says of a film and a recording in memory
abbrev pub FindsIn : List ℕ → List ℕ → Verdict → Type 0
FindsIn film recording verdict = (film' : Option (List ℕ)) × (recording' : Option (List ℕ)) × Finds (Some film) film' (Some recording) recording' verdict

-- what each fault says of them; none is a failed read
abbrev pub StopsIn : List ℕ → List ℕ → VerifyFault → Type 0
StopsIn film recording fault =
    Stops (Some film) (Some recording) fault × (blames_film fault ≡ false) × (blames_recording fault ≡ false)
