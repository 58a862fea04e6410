use Rattle.std.proofs.Common.{◌≡◌}
use Rattle.ls_bits.specs.View.Packing.{KeepsRest}
use Rattle.ls_bits.proofs.packer.Packer.put_out_bytes.Given as goal

abbrev pub invariant-loop-self : goal.invariant-loop-self
invariant-loop-self g l = (l.self.bits ≡ l.fn.self.bits) × KeepsRest g.R.Room.Grown l.fn.self l.self 0

abbrev pub decreases-loop-self : goal.decreases-loop-self
decreases-loop-self g l = l.self.held
