-- The code words of T.87 (A.5.3): LG(k, glimit), for errors of qbpp bits.
use Rattle.std.specs.Prelude.{◌≡◌, ℕ, ◌+◌, ◌-◌, ◌/◌, ◌^◌, ◌<◌, ◌≤◌, Bool, true, nat_lt, if◌then◌else◌, List, ◌∷◌, ◌++◌}
use Rattle.ls_bits.specs.declared.source.CodeFault.{CodeFault}
use Rattle.ls_bits.specs.declared.source.CodeFault.TheVariants.{OutOfBits, NotCanonical}
use Rattle.ls_bits.specs.Bits.{bits_of, zeros, BeginsWith}

-- the parameters that a code may have
pub record IsGolomb (k glimit qbpp : ℕ) : Type 0 where
  pub some_zeros : 1 ≤ glimit - qbpp - 1
  pub small_k : k ≤ qbpp + 1
  pub small_qbpp : qbpp ≤ 16
  pub small_glimit : glimit ≤ 64

-- the greatest value that has a code word; the least is 0
abbrev pub most_value : ℕ → ℕ
most_value qbpp = 2 ^ qbpp

-- the number of zeros at the front of an escape word
abbrev pub escape_zeros : ℕ → ℕ → ℕ
escape_zeros glimit qbpp = glimit - qbpp - 1

-- v / 2^k zeros, a one, and the low k bits of v
abbrev pub short_word : ℕ → ℕ → List Bool
short_word k v = zeros (v / 2 ^ k) ++ true ∷ bits_of k v

-- glimit - qbpp - 1 zeros, a one, and v - 1 in qbpp bits
abbrev pub escape_word : ℕ → ℕ → ℕ → List Bool
escape_word glimit qbpp v = zeros (escape_zeros glimit qbpp) ++ true ∷ bits_of qbpp (v - 1)

-- a value is small if its short word has fewer zeros than an escape word
abbrev pub is_small : ℕ → ℕ → ℕ → ℕ → Bool
is_small k glimit qbpp v = nat_lt (v / 2 ^ k) (escape_zeros glimit qbpp)

-- the code word of v
unfoldable pub code_word : ℕ → ℕ → ℕ → ℕ → List Bool
code_word k glimit qbpp v = if is_small k glimit qbpp v then short_word k v else escape_word glimit qbpp v

-- The bits can't begin with a code word, whatever follows them: they begin with too many zeros, with the escape word of
-- a small value, or with a short word of a value over the greatest.
pub data IsUncanonical (k glimit qbpp : ℕ) (bits : List Bool) : Type 0 where
  zeros_only : BeginsWith (zeros (glimit - qbpp)) bits → IsUncanonical k glimit qbpp bits
  needless_escape : (v : ℕ) → 1 ≤ v → v ≤ most_value qbpp → v / 2 ^ k < escape_zeros glimit qbpp
      → BeginsWith (escape_word glimit qbpp v) bits → IsUncanonical k glimit qbpp bits
  too_large : (v : ℕ) → most_value qbpp < v → v / 2 ^ k < escape_zeros glimit qbpp
      → BeginsWith (short_word k v) bits → IsUncanonical k glimit qbpp bits

-- the bits begin with the code word of v, followed by `rest`
pub record TakesWord (k glimit qbpp : ℕ) (bits : List Bool) (v : ℕ) (rest : List Bool) : Type 0 where
  pub value : v ≤ most_value qbpp
  pub word : bits ≡ code_word k glimit qbpp v ++ rest

-- the bits begin with no code word
abbrev pub NoWord : ℕ → ℕ → ℕ → List Bool → Type 0
NoWord k glimit qbpp bits = (v : ℕ) → v ≤ most_value qbpp → BeginsWith (code_word k glimit qbpp v) bits → ⊥

-- what a fault says of the bits: NotCanonical, that they are uncanonical; OutOfBits, that they begin with no code word and aren't uncanonical
abbrev pub GolombFault : ℕ → ℕ → ℕ → List Bool → CodeFault → Type 0
GolombFault k glimit qbpp bits NotCanonical = IsUncanonical k glimit qbpp bits
GolombFault k glimit qbpp bits OutOfBits = NoWord k glimit qbpp bits × (IsUncanonical k glimit qbpp bits → ⊥)
