-- The data of the scans of a codestream, one after the other, as the parts before them are read.
use Rattle.std.specs.Prelude.{◌≡◌, ℕ, List, [], ◌∷◌, Ok}
use Rattle.ls_stream.specs.View.Outlines.{data_at, after_data}
use Rattle.ls_inspect.specs.declared.markers.Part.TheVariants.{Segment, Scan}
use Rattle.ls_inspect.specs.Parts.{part_at}

-- `rest` follows the first header of a scan in the bytes, before which there are only segments
pub data IsAfterHeader (rest : List ℕ) : List ℕ → Type 0 where
  at_front : (bytes : List ℕ) → part_at bytes ≡ Ok (Scan, rest) → IsAfterHeader rest bytes
  past_segment : (bytes more : List ℕ) → part_at bytes ≡ Ok (Segment, more) → IsAfterHeader rest more → IsAfterHeader rest bytes

-- the next scans in the bytes have these data
abbrev pub HaveData : List ℕ → List (List ℕ) → Type 0
HaveData bytes [] = Unit {0}
HaveData bytes (stuffed ∷ scans) = (rest : List ℕ) × IsAfterHeader rest bytes × (stuffed ≡ data_at rest) × HaveData (after_data rest) scans
