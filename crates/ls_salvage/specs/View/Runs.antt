-- What a salvage does with its reader, its writer and the gaps that it reports, and why it stops. What is written of frames is a parameter.
use Rattle.std.specs.Prelude.{◌≡◌, ◌⊎◌, ℕ, ◌+◌, ◌*◌, ◌<◌, ◌≤◌, ◌^◌, List, [], ◌∷◌, ◌++◌, length, take, Option}
use Rattle.std.specs.Io.KnownBytes.{Appends}
use Rattle.std.specs.List.{AllByRecursion}
use Rattle.ls_frame.specs.Picture.{Picture}
use Rattle.ls_frame.specs.View.Known.{Tells, known}
use Rattle.ls_stream.specs.Grammar.{Spells}
use Rattle.ls_film.specs.Film.{most_frames}
use Rattle.ls_film.specs.View.Memory.{HasBytes}
use Rattle.ls_film.specs.View.Texts.{GrowsBy}
use Rattle.ls_salvage.specs.declared.faults.SalvageFault.{SalvageFault}
use Rattle.ls_salvage.specs.declared.faults.SalvageFault.TheVariants.{Io, Output, NoMemory, NoEnd, TooMuch}
use Rattle.ls_salvage.specs.declared.gaps.Gap.{Gap}
use Rattle.ls_salvage.specs.declared.salvaging.Progress.{Progress}
use Rattle.ls_salvage.specs.declared.salvaging.Salvaged.{Salvaged}
use Rattle.ls_salvage.specs.Salvage.{Part, frame, gap, bytes_of, frames_of, gaps_of}
use Rattle.ls_salvage.specs.View.Salvaged.{AreParts, IsSalvaged}
use Rattle.ls_salvage.specs.View.Ends.{most_place}
use Rattle.ls_salvage.specs.View.Parts.{IsLawful, HasNoEnd, HasLongGap}
use Rattle.ls_salvage.specs.View.Telling.{TellsMore}

module _ (text : List Picture → List ℕ) (written written' : Option (List ℕ)) (told told' : Option (List Gap)) where
  -- The text of the frames of these parts was written, their gaps were reported, and nothing else.
  pub record HasHandedOn (parts : List Part) : Type 0 where
    pub lawful : AllByRecursion IsLawful parts
    pub wrote : Appends written written' (text (frames_of parts))
    pub tells : TellsMore told told' (gaps_of parts)

  module _ (read read' : Option (List ℕ)) where
    -- The reader is at its end, and the text and the gaps of all parts of its bytes were handed on.
    pub record Completes (salvaged : Salvaged) : Type 0 where
      pub parts : List Part
      pub gave : Tells read → Tells read' × (known read' ≡ []) × IsSalvaged (known read) parts
      pub handed_on : HasHandedOn parts
      pub frames : salvaged.frames ≡ length (frames_of parts)
      pub gaps : salvaged.gaps ≡ length (gaps_of parts)

    -- The parts that the reader gave so far; their text and gaps were handed on.
    pub record HasRun (progress : Progress) : Type 0 where
      pub parts : List Part
      pub gave : Tells read → Tells read' × AreParts (known read) parts (known read')
      pub handed_on : HasHandedOn parts
      pub frames : progress.frames ≡ length (frames_of parts)
      pub gaps : progress.gaps ≡ length (gaps_of parts)
      pub place : progress.place ≡ bytes_of parts
      pub bytes : progress.written ≡ length (text (frames_of parts))

  module _ (read : Option (List ℕ)) where
    -- The bytes begin with these parts, and P holds of what follows.
    abbrev pub BeginWith : List Part → (List ℕ → Type 0) → Type 0
    BeginWith parts P = Tells read → (rest : List ℕ) × AreParts (known read) parts rest × P rest

    -- It stopped after parts whose text and gaps were handed on, and P holds of the parts and of what follows.
    pub record StopsAfter (P : List Part → List ℕ → Type 0) : Type 0 where
      pub parts : List Part
      pub begins : BeginWith parts (P parts)
      pub handed_on : HasHandedOn parts

    -- A write failed in the text of the last frame: exactly the first `bytes` bytes of the text were written.
    pub record StopsAtOutput (bytes : ℕ) : Type 0 where
      pub parts : List Part
      pub count : ℕ
      pub last : Picture
      pub begins : BeginWith (parts ++ frame count last ∷ []) (λ rest. Unit {0})
      pub lawful : AllByRecursion IsLawful (parts ++ frame count last ∷ [])
      pub later : length (text (frames_of parts)) ≤ bytes
      pub part : bytes < length (text (frames_of parts ++ last ∷ []))
      pub wrote : Appends written written' (take bytes (text (frames_of parts ++ last ∷ [])))
      pub tells : TellsMore told told' (gaps_of parts)

-- anything may follow
abbrev pub Anything : List Part → List ℕ → Type 0
Anything parts rest = Unit {0}

-- at least one byte follows
abbrev pub HasMore : List Part → List ℕ → Type 0
HasMore parts rest = HasBytes rest

-- some front of the bytes is a codestream of a frame
abbrev pub BeginsWithOne : List ℕ → Type 0
BeginsWithOne bytes = (front : List ℕ) × (rest : List ℕ) × (f : Picture) × (bytes ≡ front ++ rest) × Spells front f

-- What follows has no end: no codestream begins it, and as many of its bytes as a codestream may have show neither an end nor a fault.
abbrev pub IsEndless : List Part → List ℕ → Type 0
IsEndless parts rest = HasNoEnd rest

-- There are as many frames as a film may have, and a codestream of another follows; or the parts have at least 2^62 bytes; or no codestream begins
-- what follows, which has at least 2^62 bytes.
abbrev pub IsTooMuch : List Part → List ℕ → Type 0
IsTooMuch parts rest = ((length (frames_of parts) ≡ most_frames) × BeginsWithOne rest) ⊎ ((most_place ≤ bytes_of parts) ⊎ HasLongGap rest)

-- what each fault says
abbrev pub Stops : (List Picture → List ℕ) → Option (List ℕ) → Option (List ℕ) → Option (List Gap) → Option (List Gap) → Option (List ℕ) → SalvageFault → Type 0
Stops text written written' told told' read (Io frames) = (stop : StopsAfter text written written' told told' read Anything) × (length (frames_of stop.parts) ≡ frames)
Stops text written written' told told' read (Output bytes) = StopsAtOutput text written written' told told' read bytes
Stops text written written' told told' read NoMemory = StopsAfter text written written' told told' read HasMore
Stops text written written' told told' read NoEnd = StopsAfter text written written' told told' read IsEndless
Stops text written written' told told' read TooMuch = StopsAfter text written written' told told' read IsTooMuch

-- ---- one more part

-- the counts leave room for one more part
pub record IsSmall (progress : Progress) : Type 0 where
  pub frames : progress.frames ≤ most_frames
  pub gaps : progress.gaps ≤ progress.place
  pub bytes : progress.written ≤ 2 ^ 32 * progress.frames

abbrev pub no_progress : Progress
no_progress = record { frames = 0; gaps = 0; place = 0; written = 0 }

-- after a frame of `count` bytes, with a chunk of `size` bytes
abbrev pub after_frame : Progress → ℕ → ℕ → Progress
after_frame before count size =
    record { frames = before.frames + 1; gaps = before.gaps; place = before.place + count; written = before.written + size }

-- after a gap of `count` bytes
abbrev pub after_gap : Progress → ℕ → Progress
after_gap before count = record { frames = before.frames; gaps = before.gaps + 1; place = before.place + count; written = before.written }

module _ (text : List Picture → List ℕ) (written written' : Option (List ℕ)) (told told' : Option (List Gap)) (before : Progress) where
  -- One more part was handed on: the chunk of a frame was written, or a gap was reported.
  abbrev pub HandsOn : Part → Progress → Type 0
  HandsOn (frame count f) after =
      (chunk : List ℕ) × GrowsBy text before.frames f chunk × (length chunk < 2 ^ 32) × Appends written written' chunk × (told' ≡ told) × (before.frames < most_frames)
      × (after ≡ after_frame before count (length chunk))
  HandsOn (gap count fault) after =
      (written' ≡ written) × TellsMore told told' (record { frame = before.frames; place = before.place; count = count; fault = fault } ∷ [])
      × (after ≡ after_gap before count)

  -- Why a part wasn't handed on: only a front of its chunk was written; an allocation failed; or it is a frame too many.
  abbrev pub StopsHandingOn : Part → SalvageFault → Type 0
  StopsHandingOn part (Io frames) = ⊥
  StopsHandingOn (frame count f) (Output bytes) =
      (chunk : List ℕ) × GrowsBy text before.frames f chunk × (here : ℕ) × (bytes ≡ before.written + here) × (here < length chunk)
      × Appends written written' (take here chunk) × (told' ≡ told)
  StopsHandingOn (gap count fault) (Output bytes) = ⊥
  StopsHandingOn part NoMemory = (written' ≡ written) × (told' ≡ told)
  StopsHandingOn part NoEnd = ⊥
  StopsHandingOn (frame count f) TooMuch = (written' ≡ written) × (told' ≡ told) × (before.frames ≡ most_frames)
  StopsHandingOn (gap count fault) TooMuch = ⊥
