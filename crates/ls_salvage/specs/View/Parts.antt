-- The next part of a recording, as the code returns it.
use Rattle.std.specs.Prelude.{◌≡◌, ◌≢◌, ℕ, ◌<◌, ◌≤◌, ◌^◌, List, [], ◌∷◌, length, drop, Option}
use Rattle.ls_frame.specs.Picture.{IsFrame}
use Rattle.ls_frame.specs.View.Known.{Tells, Gave, known}
use Rattle.ls_stream.specs.declared.faults.StreamFault.TheVariants as stream
use Rattle.ls_stream.specs.Grammar.{Spells}
use Rattle.ls_stream.specs.View.Extents.{BeginsEndless}
use Rattle.ls_film.specs.View.Codestreams.{BeginsWithNone}
use Rattle.ls_salvage.specs.declared.parts.Found.{Found}
use Rattle.ls_salvage.specs.declared.parts.Found.TheVariants as found
use Rattle.ls_salvage.specs.declared.parts.NextPart.{NextPart}
use Rattle.ls_salvage.specs.declared.parts.NextPart.TheVariants as next
use Rattle.ls_salvage.specs.Starts.{to_next}
use Rattle.ls_salvage.specs.View.Ends.{most_place}
use Rattle.ls_salvage.specs.Salvage.{Part, frame, gap}
use Rattle.ls_salvage.specs.View.Salvaged.{FailsBy, AreParts}

-- What was found where a codestream should begin: a frame, whose codestream of `count` bytes was read; or a fault, and the bytes that were read.
abbrev pub IsFound : Option (List ℕ) → Option (List ℕ) → Found → Type 0
IsFound read read' (found.Frame f count) = IsFrame f × (0 < count) × (count < 2 ^ 63) × Gave read read' (λ bytes. (length bytes ≡ count) × Spells bytes f)
IsFound read read' (found.Fault fault bytes) =
    (fault ≢ stream.NoMemory) × (Tells read → FailsBy fault (known read)) × Gave read read' (λ front. (front ≡ bytes.items) × (0 < length front))

-- `count` of these bytes were passed over, up to the next start after the first, and the others are left.
abbrev pub HasPassed : List ℕ → ℕ → Option (List ℕ) → Type 0
HasPassed bytes count read' = Tells read' × (count ≡ to_next bytes) × (known read' ≡ drop count bytes)

-- the part as the definitions see it
abbrev pub part_of : NextPart → Part
part_of (next.Frame f count) = frame count f
part_of (next.Gap count fault) = gap count fault

-- The reader gave this part.
abbrev pub GavePart : Option (List ℕ) → Option (List ℕ) → Part → Type 0
GavePart read read' part = Tells read → Tells read' × AreParts (known read) (part ∷ []) (known read')

-- A frame within the recorder's limits; or a gap whose fault is one of the bytes.
abbrev pub IsLawful : Part → Type 0
IsLawful (frame count f) = IsFrame f
IsLawful (gap count fault) = fault ≢ stream.NoMemory

-- No codestream begins the bytes, and as many of them as a codestream may have show neither an end nor a fault.
abbrev pub HasNoEnd : List ℕ → Type 0
HasNoEnd bytes = BeginsWithNone bytes × BeginsEndless bytes

-- No codestream begins the bytes, and there are at least 2^62.
abbrev pub HasLongGap : List ℕ → Type 0
HasLongGap bytes = BeginsWithNone bytes × (most_place ≤ length bytes)
