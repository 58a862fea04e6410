-- Marker segments (T.87 Annex C; T.81 B.1.1.4): a marker, the length of what follows it, and contents.
use Rattle.std.specs.Prelude.{ℕ, ◌+◌, ◌*◌, ◌<◌, ◌^◌, slice_index, List, [], ◌∷◌, ◌++◌, length, flat_map}
use Rattle.ls_frame.specs.Parameters.{Parameters}
use Rattle.ls_bits.specs.Bits.{two_bytes}
use Rattle.ls_stream.specs.declared.marker.Marker.{Marker}
use Rattle.ls_stream.specs.Markers.{marker}

-- the length counts its own two bytes and the contents
abbrev pub segment : Marker → List ℕ → List ℕ
segment m contents = marker m ++ two_bytes (2 + length contents) ++ contents

-- the value of the two-byte field at a place, upper byte first
unfoldable pub field_of : List ℕ → ℕ → ℕ
field_of bytes place = 256 * slice_index bytes place + slice_index bytes (place + 1)

-- ---- the frame header (SOF55; T.87 C.2.2)

-- a component: its identifier (Ci), and the number of a quantization table (Tqi), which T.87 doesn't use
pub record Component : Type 0 where
  pub id : ℕ
  pub table : ℕ

-- bits per sample (P), lines (Y), samples per line (X), and the components
pub record Header : Type 0 where
  pub precision : ℕ
  pub height : ℕ
  pub width : ℕ
  pub components : List Component

-- the identifier of a component, its sampling factors, both 1, in one byte, and its quantization table
abbrev pub component_bytes : Component → List ℕ
component_bytes component = component.id ∷ 17 ∷ component.table ∷ []

unfoldable pub header_contents : Header → List ℕ
header_contents header =
    header.precision ∷ (two_bytes header.height ++ two_bytes header.width ++ length header.components ∷ flat_map component_bytes header.components)

-- ---- preset coding parameters (LSE with ID 1; T.87 C.2.4.1.1)

unfoldable pub presets_contents : Parameters → List ℕ
presets_contents p = 1 ∷ (two_bytes p.maxval ++ two_bytes p.t1 ++ two_bytes p.t2 ++ two_bytes p.t3 ++ two_bytes p.reset)

-- numbers that fit in two bytes
pub record AreTwoByteFields (p : Parameters) : Type 0 where
  pub maxval : p.maxval < 2 ^ 16
  pub t1 : p.t1 < 2 ^ 16
  pub t2 : p.t2 < 2 ^ 16
  pub t3 : p.t3 < 2 ^ 16
  pub reset : p.reset < 2 ^ 16

-- ---- the header of a scan of one component (SOS; T.87 C.2.3): no mapping table, NEAR 0, not interleaved, no point transform

unfoldable pub scan_contents : ℕ → List ℕ
scan_contents id = 1 ∷ id ∷ 0 ∷ 0 ∷ 0 ∷ 0 ∷ []
