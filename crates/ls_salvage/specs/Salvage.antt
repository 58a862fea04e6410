-- The parts of a recording that is read past damage: codestreams of frames and gaps between them; and what results from them. View/Salvaged says
-- which bytes these parts are.
use Rattle.std.specs.Prelude.{◌≡◌, ℕ, ◌+◌, ◌<◌, List, [], ◌∷◌, ◌++◌}
use Rattle.ls_frame.specs.Picture.{Picture}
use Rattle.ls_stream.specs.declared.faults.StreamFault.{StreamFault}
use Rattle.ls_salvage.specs.declared.gaps.Gap.{Gap}

-- ---- parts

-- A part of a recording: `count` bytes that are a codestream of a frame, or `count` bytes that are passed over for a fault.
pub data Part : Type 0 where
  frame : (count : ℕ) → (f : Picture) → Part
  gap : (count : ℕ) → (fault : StreamFault) → Part

-- ---- what results from them

abbrev pub size_of : Part → ℕ
size_of (frame count f) = count
size_of (gap count fault) = count

-- the number of their bytes
abbrev pub bytes_of : List Part → ℕ
bytes_of [] = 0
bytes_of (part ∷ parts) = size_of part + bytes_of parts

abbrev pub frames_of : List Part → List Picture
frames_of [] = []
frames_of (frame count f ∷ parts) = f ∷ frames_of parts
frames_of (gap count fault ∷ parts) = frames_of parts

-- the gaps of parts that come after `frames` frames and `place` bytes
abbrev pub gaps_after : ℕ → ℕ → List Part → List Gap
gaps_after frames place [] = []
gaps_after frames place (frame count f ∷ parts) = gaps_after (frames + 1) (place + count) parts
gaps_after frames place (gap count fault ∷ parts) =
    record { frame = frames; place = place; count = count; fault = fault } ∷ gaps_after frames (place + count) parts

-- the gaps, each with the number of frames and of bytes before it
abbrev pub gaps_of : List Part → List Gap
gaps_of parts = gaps_after 0 0 parts

-- ---- where a frame is shown

-- The frame's codestream is the part of `count` bytes that begins at this place.
abbrev pub IsShownAt : List Part → ℕ → ℕ → Picture → Type 0
IsShownAt parts place count f = (before : List Part) × (after : List Part) × (parts ≡ before ++ frame count f ∷ after) × (bytes_of before ≡ place)

-- A shown frame's codestream begins before this place and ends after it. (If a codestream begins within another, it does so in a segment, since in
-- coded data FF is followed by a byte below 0x80.)
abbrev pub IsHeld : List Part → ℕ → Type 0
IsHeld parts place = (start : ℕ) × (count : ℕ) × (f : Picture) × IsShownAt parts start count f × (start < place) × (place < start + count)
