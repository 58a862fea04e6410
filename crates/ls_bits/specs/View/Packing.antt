-- How a `Packer` and a `Stuffed` hold bits: bytes, and a word of 64 bits whose lowest `held` bits come after them (in a
-- `Packer`) or before them (in a `Stuffed`).
use Rattle.std.specs.Prelude.{◌≡◌, ℕ, ◌+◌, ◌*◌, ◌/◌, ◌%◌, ◌^◌, ◌<◌, ◌≤◌, Bool, if◌then◌else◌, List, [], ◌∷◌, ◌++◌, length, drop}
use Rattle.ls_bits.specs.Bits.{bits_of}
use Rattle.ls_bits.specs.Stuffing.{bits_after, unstuff_from, unstuff}

-- the number of bits that the next byte holds
abbrev pub byte_bits : Bool → ℕ
byte_bits after_ff = if after_ff then 7 else 8

-- bytes as stuffing makes them, of which the first holds `size` bits: a byte after FF is below 0x80
abbrev pub KeepsStuffing : ℕ → List ℕ → Type 0
KeepsStuffing size [] = Unit {0}
KeepsStuffing size (byte ∷ bytes) = (byte < 2 ^ size) × KeepsStuffing (bits_after byte) bytes

-- the number of bits that the byte after these holds
abbrev pub next_byte_bits : ℕ → List ℕ → ℕ
next_byte_bits size [] = size
next_byte_bits size (byte ∷ bytes) = next_byte_bits (bits_after byte) bytes

-- the bits of a packer whose stuffed bytes begin at `start`
abbrev pub packed_bits : ℕ → List ℕ → ℕ → ℕ → List Bool
packed_bits start bytes word held = unstuff (drop start bytes) ++ bits_of held word

pub record IsPacked (start : ℕ) (bytes : List ℕ) (held : ℕ) (after_ff : Bool) : Type 0 where
  pub within : start ≤ length bytes
  pub keeps : KeepsStuffing 8 (drop start bytes)
  pub next : next_byte_bits 8 (drop start bytes) ≡ byte_bits after_ff
  pub few : held ≤ 63

-- the model of a `Packer`
pub record Packed (R : Type 0) : Type 0 where
  -- the room with the bytes put so far
  pub room : R
  -- the bytes that the room had
  pub front : List ℕ
  -- the bits put since
  pub bits : List Bool
  -- the number of these that aren't stuffed into bytes yet
  pub held : ℕ
  -- the number of free bytes in the room
  pub capacity_left : ℕ
  -- the number of bytes that the room can hold in all
  pub capacity : ℕ

-- `count` more bits fit into the room, wherever zeros are stuffed
abbrev pub HasRoom : {R : Type 0} → Packed R → ℕ → Type 0
HasRoom {R} packed count = packed.held + count < 7 * packed.capacity_left + 7

-- all but the bits is unchanged, and each byte that was put took at least seven of the bits held before and `count` new ones
pub record KeepsRest {R : Type 0} (Grown : R → R → Type 0) (old new : Packed R) (count : ℕ) : Type 0 where
  pub grown : Grown old.room new.room
  pub front : new.front ≡ old.front
  pub capacity : new.capacity ≡ old.capacity
  pub room : 7 * old.capacity_left + new.held ≤ 7 * new.capacity_left + old.held + count

-- bytes followed by the eight bytes of a word
abbrev pub with_word : List ℕ → ℕ → List ℕ
with_word bytes word =
    (((((((bytes ++ word / 2 ^ 56 % 256 ∷ []) ++ word / 2 ^ 48 % 256 ∷ []) ++ word / 2 ^ 40 % 256 ∷ []) ++ word / 2 ^ 32 % 256 ∷ [])
    ++ word / 2 ^ 24 % 256 ∷ []) ++ word / 2 ^ 16 % 256 ∷ []) ++ word / 2 ^ 8 % 256 ∷ []) ++ word / 2 ^ 0 % 256 ∷ []

-- none of the eight bytes of a word is FF
pub record HasNoFf (word : ℕ) : Type 0 where
  pub at_56 : word / 2 ^ 56 % 256 ≡ 255 → ⊥
  pub at_48 : word / 2 ^ 48 % 256 ≡ 255 → ⊥
  pub at_40 : word / 2 ^ 40 % 256 ≡ 255 → ⊥
  pub at_32 : word / 2 ^ 32 % 256 ≡ 255 → ⊥
  pub at_24 : word / 2 ^ 24 % 256 ≡ 255 → ⊥
  pub at_16 : word / 2 ^ 16 % 256 ≡ 255 → ⊥
  pub at_8 : word / 2 ^ 8 % 256 ≡ 255 → ⊥
  pub at_0 : word / 2 ^ 0 % 256 ≡ 255 → ⊥

-- the bits that a `Stuffed` has left
abbrev pub bits_left : ℕ → ℕ → Bool → List ℕ → List Bool
bits_left word held after_ff rest = bits_of held word ++ unstuff_from (byte_bits after_ff) rest

-- the model of a `Stuffed`
pub record BitsLeft : Type 0 where
  -- the bits that are left
  pub bits : List Bool
  -- how many of them are in the word
  pub held : ℕ

pub record IsWindow (held : ℕ) (after_ff : Bool) (rest : List ℕ) : Type 0 where
  pub few : held ≤ 63
  pub keeps : KeepsStuffing (byte_bits after_ff) rest
