-- A comparison of some frames of a film and a recording: those before them are passed over, the film's as images, the recording's by their
-- markers.
use Rattle.std.specs.Prelude.{◌≡◌, ◌⊎◌, ℕ, ◌+◌, ◌<◌, ◌≤◌, Bool, false, List, [], length, Option, None, Some, MatchOption}
use Rattle.ls_frame.specs.Picture.{Picture}
use Rattle.ls_frame.specs.Netpbm.{IsImageOf}
use Rattle.ls_frame.specs.View.Known.{Tells, known}
use Rattle.ls_film.specs.declared.playing.PlayFault.{PlayFault}
use Rattle.ls_film.specs.View.Given.{GaveFrames, GaveFilm}
use Rattle.ls_film.specs.View.Parts.{GavePassed, StopsPassing}
use Rattle.ls_film.specs.View.Playing.{blames_reader}
use Rattle.ls_archive.specs.declared.faults.VerifyFault.{VerifyFault}
use Rattle.ls_archive.specs.declared.faults.VerifyFault.TheVariants as fault
use Rattle.ls_archive.specs.declared.verifying.Verdict.{Verdict}
use Rattle.ls_archive.specs.declared.verifying.Verdict.TheVariants.{Same, Differs, Missing, Extra}
use Rattle.ls_archive.specs.declared.verifying.part.VerifyPartFault.{VerifyPartFault}
use Rattle.ls_archive.specs.declared.verifying.part.VerifyPartFault.TheVariants.{Verify, Passing, FilmTooFew, RecordingTooFew}
use Rattle.ls_archive.specs.View.Verifying.{HaveRun, AreSame, Finds, Stops, StopsFilm, FailsAfter, number_of, blames_film as film_at_fault, blames_recording as recording_at_fault}

-- ---- numbers

-- a verdict on what follows the first frames, with frames numbered from the beginning; frames that are the same are those of the part
abbrev pub later : ℕ → Verdict → Verdict
later first (Same n) = Same n
later first (Differs n what) = Differs (first + n) what
later first (Missing n) = Missing (first + n)
later first (Extra n) = Extra (first + n)

-- a fault met after the first frames
abbrev pub later_fault : ℕ → VerifyFault → VerifyFault
later_fault first (fault.Film m broken) = fault.Film (first + m) broken
later_fault first (fault.Recording m broken) = fault.Recording (first + m) broken
later_fault first (fault.RecordingIo m) = fault.RecordingIo (first + m)
later_fault first fault.NoMemory = fault.NoMemory
later_fault first fault.TooMany = fault.TooMany

-- ---- the frames of the part

abbrev pub IsDifference : Verdict → Type 0
IsDifference (Same n) = ⊥
IsDifference (Differs n what) = Unit {0}
IsDifference (Missing n) = Unit {0}
IsDifference (Extra n) = Unit {0}

module _ (film film' recording recording' : Option (List ℕ)) (first : ℕ) where
  -- What a verdict says of what film and recording gave, of which the first frames have the number `first`: of a part that goes to the end,
  -- what a comparison of all that says; of one that ends with a last frame, that all its frames are the same, and nothing after them was
  -- read, or how its first ones that aren't differ.
  abbrev pub FindsFrom : Option ℕ → Verdict → Type 0
  FindsFrom None verdict = (alone : Verdict) × (verdict ≡ later first alone) × Finds film film' recording recording' alone
  FindsFrom (Some last) verdict =
      ((n : ℕ) × (verdict ≡ Same n) × (first + n ≡ last + 1) × HaveRun film film' recording recording' n)
      ⊎ ((alone : Verdict) × (verdict ≡ later first alone) × IsDifference alone × (first + number_of alone ≤ last) × Finds film film' recording recording' alone)

  -- Both gave the same frames and are at their ends, m in all with those before, though the part has a last one after them.
  abbrev pub AreFewer : Option ℕ → ℕ → Type 0
  AreFewer last m = (n : ℕ) × (m ≡ first + n) × AreSame film film' recording recording' n × MatchOption last ⊥ (λ last. m ≤ last)

-- what each fault says of a comparison of what follows the first frames: it stopped with that fault, but for its number; or both have fewer
-- frames than the part
abbrev pub StopsRest : Option (List ℕ) → Option (List ℕ) → Option (List ℕ) → Option (List ℕ) → ℕ → Option ℕ → VerifyPartFault → Type 0
StopsRest film film' recording recording' first last (Verify fault) = (alone : VerifyFault) × (fault ≡ later_fault first alone) × Stops film recording alone
StopsRest film film' recording recording' first last (Passing fault) = ⊥
StopsRest film film' recording recording' first last (FilmTooFew m) = AreFewer film film' recording recording' first last m
StopsRest film film' recording recording' first last (RecordingTooFew m) = ⊥

-- ---- the frames before it

-- The film gave this number of images.
abbrev pub GaveImages : Option (List ℕ) → Option (List ℕ) → ℕ → Type 0
GaveImages film mid count = (frames : List Picture) × (length frames ≡ count) × GaveFrames IsImageOf film mid frames

-- What each fault says of the film's images before the part: it gave m of them, and the next one can't be read; or it is at its end.
abbrev pub StopsImages : Option (List ℕ) → Option (List ℕ) → ℕ → VerifyPartFault → Type 0
StopsImages film film' first (Verify fault) = (mid : Option (List ℕ)) × (m : ℕ) × (m < first) × GaveImages film mid m × StopsFilm mid m fault
StopsImages film film' first (Passing fault) = ⊥
StopsImages film film' first (FilmTooFew m) = (m < first) × ((frames : List Picture) × (length frames ≡ m) × GaveFilm IsImageOf film film' frames)
StopsImages film film' first (RecordingTooFew m) = ⊥

-- what each fault says of the recording's codestreams before the part: passing over them stopped; or it gave m of them, and is at its end
abbrev pub StopsStreams : Option (List ℕ) → Option (List ℕ) → ℕ → VerifyPartFault → Type 0
StopsStreams recording recording' first (Verify fault) = ⊥
StopsStreams recording recording' first (Passing fault) = StopsPassing recording recording' first fault
StopsStreams recording recording' first (FilmTooFew m) = ⊥
StopsStreams recording recording' first (RecordingTooFew m) = (m < first) × GavePassed recording recording' m × (Tells recording → known recording' ≡ [])

module _ (film film' recording recording' : Option (List ℕ)) (first : ℕ) where
  -- The first frames were passed over in both, and P holds of what both have left.
  pub record HavePassed (P : Option (List ℕ) → Option (List ℕ) → Type 0) : Type 0 where
    pub mid : Option (List ℕ)
    pub images : GaveImages film mid first
    pub midway : Option (List ℕ)
    pub codestreams : GavePassed recording midway first
    pub after : P mid midway

  abbrev pub FindsPart : Option ℕ → Verdict → Type 0
  FindsPart last verdict = HavePassed (λ mid midway. FindsFrom mid film' midway recording' first last verdict)

  -- It stopped among the film's images before the part; or after these among the recording's codestreams before it; or in the part.
  abbrev pub StopsVerifyPart : Option ℕ → VerifyPartFault → Type 0
  StopsVerifyPart last fault =
      StopsImages film film' first fault
      ⊎ (((mid : Option (List ℕ)) × GaveImages film mid first × StopsStreams recording recording' first fault)
      ⊎ HavePassed (λ mid midway. StopsRest mid film' midway recording' first last fault))

-- ---- failed reads

-- a read of the recording failed, and not before the part
abbrev pub fails_in_part : VerifyPartFault → Bool
fails_in_part (Verify fault) = recording_at_fault fault
fails_in_part (Passing fault) = false
fails_in_part (FilmTooFew m) = false
fails_in_part (RecordingTooFew m) = false

-- What a failed read of the recording says of what follows the first codestreams: it gave those of as many frames as were compared, and no
-- whole one after them.
abbrev pub FailsRest : Option (List ℕ) → Option (List ℕ) → ℕ → VerifyPartFault → Type 0
FailsRest recording recording' first (Verify fault) = (alone : VerifyFault) × (fault ≡ later_fault first alone) × FailsAfter recording recording' alone
FailsRest recording recording' first (Passing fault) = Unit {0}
FailsRest recording recording' first (FilmTooFew m) = Unit {0}
FailsRest recording recording' first (RecordingTooFew m) = Unit {0}

-- the same of the whole, where the read failed in the part
abbrev pub FailsVerifyPart : Option (List ℕ) → Option (List ℕ) → ℕ → VerifyPartFault → Type 0
FailsVerifyPart recording recording' first fault =
    (fails_in_part fault ≡ false) ⊎ ((midway : Option (List ℕ)) × GavePassed recording midway first × FailsRest midway recording' first fault)

abbrev pub blames_film : VerifyPartFault → Bool
blames_film (Verify fault) = film_at_fault fault
blames_film (Passing fault) = false
blames_film (FilmTooFew m) = false
blames_film (RecordingTooFew m) = false

abbrev pub blames_recording : VerifyPartFault → Bool
blames_recording (Verify fault) = recording_at_fault fault
blames_recording (Passing fault) = blames_reader fault
blames_recording (FilmTooFew m) = false
blames_recording (RecordingTooFew m) = false
