use Rattle.std.proofs.Common.{◌≡◌, ◌≤◌, ◌++◌, length}
use Rattle.ls_bits.specs.Bits.{zeros}
use Rattle.ls_bits.specs.View.Plain.{bits_in}
use Rattle.ls_bits.proofs.source.BitSource.take_zeros.Given as goal

abbrev pub invariant-words : goal.invariant-words
invariant-words l = (bits_in l.fn.self ≡ zeros l.count ++ bits_in l.self) × (l.count ≤ l.most)

abbrev pub decreases-words : goal.decreases-words
decreases-words l = length (bits_in l.self)
