use Rattle.std.proofs.Common.{◌≡◌, ◌+◌, ◌≤◌, min, length, drop}
use Rattle.ls_bits.specs.Stuffing.{unstuff_from}
use Rattle.ls_bits.specs.View.Packing.{byte_bits}
use Rattle.ls_bits.proofs.stuffed.Stuffed.left.Given as goal

abbrev pub invariant-loop-byte : goal.invariant-loop-byte
invariant-loop-byte l =
    (min (length l.self.bits) 18446744073709551615
    ≡ min (l.left + length (unstuff_from (byte_bits l.after_ff) (drop l.byte-index l.byte-items))) 18446744073709551615)
    × (l.left ≤ 18446744073709551615)
