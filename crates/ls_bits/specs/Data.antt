-- Which bytes are a scan's data, and what ends it (T.87 C.1): after FF, a byte below 0x80 belongs to the data, and a
-- byte of 0x80 or more makes a marker with it.
use Rattle.std.specs.Prelude.{ℕ, ◌≤◌, Bool, true, false, ◌&&◌, ◌==◌, nat_lt, nat_le, IsTrue, if◌then◌else◌, List, [], ◌∷◌, length, take}
use Rattle.ls_bits.specs.declared.data.Stop.{Stop}
use Rattle.ls_bits.specs.declared.data.Stop.TheVariants.{Marker, End}

-- bytes that may follow FF in data: there is one, and the first is below 0x80
abbrev pub goes_on : List ℕ → Bool
goes_on [] = false
goes_on (byte ∷ bytes) = nat_lt byte 128

-- no FF is followed by a byte of 0x80 or more, and the last byte isn't FF
abbrev pub is_data : List ℕ → Bool
is_data [] = true
is_data (byte ∷ bytes) = (if byte == 255 then goes_on bytes else true) && is_data bytes

abbrev pub IsData : List ℕ → Type 0
IsData bytes = IsTrue (is_data bytes)

-- bytes begin with a marker: FF and a byte of 0x80 or more
abbrev pub starts_marker : List ℕ → Bool
starts_marker [] = false
starts_marker (byte ∷ []) = false
starts_marker (byte ∷ next ∷ bytes) = byte == 255 && nat_le 128 next

-- why the data before these bytes ends
abbrev pub stop_at : List ℕ → Stop
stop_at bytes = if starts_marker bytes then Marker else End

-- the data at the front of bytes is their longest prefix that is data, of `len` bytes
pub record DataAtFront (bytes : List ℕ) (len : ℕ) : Type 0 where
  pub within : len ≤ length bytes
  pub is_data : IsData (take len bytes)
  pub longest : (more : ℕ) → more ≤ length bytes → IsData (take more bytes) → more ≤ len
