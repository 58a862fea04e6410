use Rattle.std.proofs.Common.{◌≡◌, length}
use Rattle.ls_bits.specs.View.Packing.{bits_left, IsWindow}
use Rattle.ls_bits.proofs.stuffed.Stuffed.refill_by_bytes.Given as goal

abbrev pub invariant-bytes : goal.invariant-bytes
invariant-bytes l =
    IsWindow l.self-inside.held l.self-inside.after_ff l.self-inside.rest.now
    × (bits_left l.self-inside.word l.self-inside.held l.self-inside.after_ff l.self-inside.rest.now ≡ l.fn.self.bits)

abbrev pub decreases-bytes : goal.decreases-bytes
decreases-bytes l = length l.self-inside.rest.now
