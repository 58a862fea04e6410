-- How this crate and those above it represent bits, bytes and numbers.
--
-- A bit list is a `List Bool`, the first bit first; true is a bit 1.
-- Bytes are a `List ℕ`, each below 256. An unsigned number is a ℕ, a signed one, such as an error, a ℤ.
-- In bits as in bytes, the most significant part of a number comes first.
use Rattle.std.specs.Prelude.{◌≡◌, ℕ, zero, suc, ◌+◌, ◌*◌, ◌/◌, ◌%◌, ◌^◌, ◌<◌, Bool, true, false, eqb, List, [], ◌∷◌, ◌++◌, length, replicate}
use Rattle.std.specs.List.{AllByRecursion}

-- bit i of n, the lowest being bit 0
abbrev pub has_bit : ℕ → ℕ → Bool
has_bit n i = eqb (n / 2 ^ i % 2) 1

-- n in count bits: its bits from number count - 1 down to 0
abbrev pub bits_of : ℕ → ℕ → List Bool
bits_of zero n = []
bits_of (suc count) n = has_bit n count ∷ bits_of count n

abbrev pub bit_value : Bool → ℕ
bit_value false = 0
bit_value true = 1

-- the number that bits represent
abbrev pub number_of : List Bool → ℕ
number_of [] = 0
number_of (bit ∷ bits) = bit_value bit * 2 ^ length bits + number_of bits

-- count zeros
abbrev pub zeros : ℕ → List Bool
zeros count = replicate count false

-- bits begin with front
abbrev pub BeginsWith : List Bool → List Bool → Type 0
BeginsWith front bits = (rest : List Bool) × (bits ≡ front ++ rest)

-- each is a byte
abbrev pub AreBytes : List ℕ → Type 0
AreBytes bytes = AllByRecursion (λ byte. byte < 256) bytes

-- a number below 2 ^ 16 in two bytes, as in the fields of a marker segment (T.87 Annex C)
abbrev pub two_bytes : ℕ → List ℕ
two_bytes n = n / 256 ∷ n % 256 ∷ []
