-- What counting zeros up to a one says of the bits.
use Rattle.std.specs.Prelude.{◌≡◌, ℕ, ◌+◌, ◌-◌, ◌<◌, ◌≤◌, Bool, true, List, ◌∷◌, ◌++◌, length}
use Rattle.ls_bits.specs.declared.source.CodeFault.{CodeFault}
use Rattle.ls_bits.specs.declared.source.CodeFault.TheVariants.{OutOfBits, NotCanonical}
use Rattle.ls_bits.specs.Bits.{bits_of, zeros, BeginsWith}

-- `count` zeros lead the lowest `held` bits of a word; if all of these are zeros, `count` is at least `held`
pub data LeadingZeros (held word count : ℕ) : Type 0 where
  found : count < held → bits_of held word ≡ zeros count ++ true ∷ bits_of (held - (count + 1)) word → LeadingZeros held word count
  none : held ≤ count → bits_of held word ≡ zeros held → LeadingZeros held word count

-- NotCanonical: more than `most` zeros lead the bits. OutOfBits: they are nothing but zeros, at most `most` of them
abbrev pub ZerosFault : ℕ → List Bool → CodeFault → Type 0
ZerosFault most bits NotCanonical = BeginsWith (zeros (most + 1)) bits
ZerosFault most bits OutOfBits = (bits ≡ zeros (length bits)) × (length bits ≤ most)
