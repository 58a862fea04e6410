-- Bit stuffing (T.87 A.1, C.1): bits are cut into groups of eight, or of seven after a group of eight ones. A group is
-- a byte; a group of seven has a 0 in front. The last group is filled with zeros, and a last byte FF is followed by 00.
use Rattle.std.specs.Prelude.{ℕ, zero, suc, ◌==◌, Bool, if◌then◌else◌, List, [], ◌∷◌, ◌++◌, length, take, drop}
use Rattle.ls_bits.specs.Bits.{bits_of, number_of, zeros}

-- the number of bits that the byte after this one holds: seven after FF, else eight
abbrev pub bits_after : ℕ → ℕ
bits_after byte = if byte == 255 then 7 else 8

-- the byte of the first group of `size` bits, filled with zeros if fewer bits are left
abbrev pub first_group : ℕ → List Bool → ℕ
first_group size bits = number_of (take size (bits ++ zeros size))

-- The bytes that bits are stuffed into, of which the first holds `size` bits: one for each group, and 00 at the end if
-- the last one is FF. At most `most` bytes are made; one more than the number of bits is always enough.
unfoldable pub groups : ℕ → ℕ → List Bool → List ℕ
groups zero size bits = []
groups (suc most) size [] = if size == 7 then 0 ∷ [] else []
groups (suc most) size (bit ∷ bits) =
    first_group size (bit ∷ bits)
    ∷ groups most (bits_after (first_group size (bit ∷ bits))) (drop size (bit ∷ bits))

-- the bytes that bits are stuffed into, of which the first holds `size` bits
abbrev pub stuff_into : ℕ → List Bool → List ℕ
stuff_into size bits = groups (suc (length bits)) size bits

-- the stuffed bits
abbrev pub stuff : List Bool → List ℕ
stuff bits = stuff_into 8 bits

-- the bits of bytes, of which the first holds `size` bits
abbrev pub unstuff_from : ℕ → List ℕ → List Bool
unstuff_from size [] = []
unstuff_from size (byte ∷ bytes) = bits_of size byte ++ unstuff_from (bits_after byte) bytes

-- the bits of bytes: all of each, except the top bit of one that follows FF
abbrev pub unstuff : List ℕ → List Bool
unstuff bytes = unstuff_from 8 bytes
