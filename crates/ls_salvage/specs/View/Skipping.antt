-- The search for the next start, byte by byte: how much of one was just read.
use Rattle.std.specs.Prelude.{◌≡◌, ℕ, ◌+◌, true, List, [], ◌∷◌, ◌++◌, length}
use Rattle.ls_salvage.specs.declared.starts.Matched.{Matched}
use Rattle.ls_salvage.specs.declared.starts.Matched.TheVariants.{Nothing, SoiBegun, Soi, SoiAndFf}
use Rattle.ls_stream.specs.declared.marker.Marker.TheVariants.{StartOfImage}
use Rattle.ls_stream.specs.Markers.{marker}
use Rattle.ls_salvage.specs.Starts.{ff, is_start, to_start}

-- the bytes of a start that were just read
abbrev pub held : Matched → List ℕ
held Nothing = []
held SoiBegun = ff ∷ []
held Soi = marker StartOfImage
held SoiAndFf = marker StartOfImage ++ ff ∷ []

-- With this byte, the first of the bytes held are passed over, or all of them and this one; the rest is held.
pub record GoesOn (matched : Matched) (byte : ℕ) (next : Matched) : Type 0 where
  pub passed : List ℕ
  pub split : held matched ++ byte ∷ [] ≡ passed ++ held next
  pub far : (bytes : List ℕ) → to_start (held matched ++ byte ∷ bytes) ≡ length passed + to_start (held next ++ bytes)

-- With this byte a start of four bytes is complete.
pub record FoundStart (matched : Matched) (byte : ℕ) : Type 0 where
  pub four : held matched ++ byte ∷ [] ≡ marker StartOfImage ++ (ff ∷ byte ∷ [])
  pub start : (bytes : List ℕ) → is_start (marker StartOfImage ++ (ff ∷ byte ∷ bytes)) ≡ true

-- `count` of the old bytes were read: those passed over, and then those held. The new bytes are left.
pub record IsPassing (matched : Matched) (count : ℕ) (old new : List ℕ) : Type 0 where
  pub passed : List ℕ
  pub split : old ≡ passed ++ (held matched ++ new)
  pub count_is : count ≡ length passed + length (held matched)
  pub far : to_start old ≡ length passed + to_start (held matched ++ new)

-- The `count` bytes up to the first start were read, or all bytes if there is none.
pub record HasSkipped (count : ℕ) (old new : List ℕ) : Type 0 where
  pub passed : List ℕ
  pub split : old ≡ passed ++ new
  pub count_is : length passed ≡ count
  pub far : count ≡ to_start old
