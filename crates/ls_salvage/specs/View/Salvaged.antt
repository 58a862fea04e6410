-- Which bytes are the parts of a salvage. The first fault of bytes is defined in ls_stream (`IsFirstFault`).
use Rattle.std.specs.Prelude.{◌≡◌, ℕ, ◌<◌, ◌≤◌, List, [], ◌∷◌, length, take, drop}
use Rattle.ls_bits.specs.Bits.{AreBytes}
use Rattle.ls_stream.specs.declared.faults.StreamFault.{StreamFault}
use Rattle.ls_stream.specs.Grammar.{Spells}
use Rattle.ls_stream.specs.View.Outlines.{IsFirstFault}
use Rattle.ls_film.specs.View.Codestreams.{BeginsWithNone}
use Rattle.ls_salvage.specs.declared.gaps.Gap.{Gap}
use Rattle.ls_salvage.specs.Starts.{to_next}
use Rattle.ls_salvage.specs.Salvage.{Part, frame, gap}

-- No front of the bytes is a codestream of a frame, and this is their first fault.
pub record FailsBy (fault : StreamFault) (bytes : List ℕ) : Type 0 where
  pub none : BeginsWithNone bytes
  pub first : AreBytes bytes → IsFirstFault bytes fault

-- The bytes are these parts, and then the rest. A gap goes up to the next start after its first byte, or to the end.
abbrev pub AreParts : List ℕ → List Part → List ℕ → Type 0
AreParts bytes [] rest = bytes ≡ rest
AreParts bytes (frame count f ∷ parts) rest = (count ≤ length bytes) × Spells (take count bytes) f × AreParts (drop count bytes) parts rest
AreParts bytes (gap count fault ∷ parts) rest = (count ≡ to_next bytes) × FailsBy fault bytes × AreParts (drop count bytes) parts rest

-- All bytes are these parts.
abbrev pub IsSalvaged : List ℕ → List Part → Type 0
IsSalvaged bytes parts = AreParts bytes parts []

-- the gap is at its place in these bytes
pub record IsGapOf (bytes : List ℕ) (one : Gap) : Type 0 where
  pub within : one.place < length bytes
  pub breaks : FailsBy one.fault (drop one.place bytes)
  pub count_is : one.count ≡ to_next (drop one.place bytes)
