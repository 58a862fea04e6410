-- How a `BitSource` holds bits: a buffer of un-stuffed bytes, in which its place and their end are counted in bits, and
-- after these the bits that are still stuffed.
use Rattle.std.specs.Prelude.{◌≡◌, ℕ, ◌-◌, ◌%◌, ◌≤◌, ◌⊎◌, Bool, List, [], ◌∷◌, ◌++◌, length, take, drop, ◌+◌}
use Rattle.ls_bits.specs.declared.source.BitPlace.{BitPlace}
use Rattle.ls_bits.specs.Bits.{bits_of}

-- the bits of un-stuffed bytes, eight in each
abbrev pub plain_bits : List ℕ → List Bool
plain_bits [] = []
plain_bits (byte ∷ bytes) = bits_of 8 byte ++ plain_bits bytes

-- a buffer of un-stuffed bytes, and the bits after them
pub record Ahead : Type 0 where
  -- the un-stuffed bytes
  pub bytes : List ℕ
  -- the bits that are still stuffed
  pub bits : List Bool

-- the bits from a place on, of which those before the end are un-stuffed
abbrev pub bits_from : Ahead → ℕ → ℕ → List Bool
bits_from ahead place end = take (end - place) (drop place (plain_bits ahead.bytes)) ++ ahead.bits

-- the un-stuffed bits end at a byte's end, unless no bits come after them; eight bytes can be read at each place
pub record IsAhead (ahead : Ahead) (place end : ℕ) : Type 0 where
  pub order : place ≤ end
  pub within : end ≤ 16384
  pub whole : (end % 8 ≡ 0) ⊎ (ahead.bits ≡ [])
  pub room : length ahead.bytes ≡ 2056

-- the model of a `BitSource`: also the place of the next bit, and the end of the un-stuffed ones
pub record Placed : Type 0 where
  pub ahead : Ahead
  pub place : ℕ
  pub end : ℕ

-- the bits that are left
abbrev pub bits_in : Placed → List Bool
bits_in placed = bits_from placed.ahead placed.place placed.end

-- the bits from one of its places on
abbrev pub bits_at : Placed → BitPlace → List Bool
bits_at placed at = bits_from placed.ahead at.place placed.end

-- one of its places
abbrev pub IsAt : Placed → BitPlace → Type 0
IsAt placed at = IsAhead placed.ahead at.place placed.end

-- bytes with `new` written over those from `at` on
abbrev pub with_bytes : List ℕ → ℕ → List ℕ → List ℕ
with_bytes bytes at new = take at bytes ++ (new ++ drop (at + length new) bytes)
