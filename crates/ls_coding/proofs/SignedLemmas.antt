-- Signed numbers, which the code passes as their bits.
use Rattle.std.proofs.Common.{◌≡◌, ◌<◌, ℤ, pos, negsuc, neg_ℤ, ◌≤ℤ◌, arith}
use Rattle.std.proofs.lemmas.Int.{ints, to_z-of_z}
use lib.Signed.{mag}
use mir.Syntax.{w16, w32}
use mir.Val.{to_z, of_z}

pub through : (z : ℤ) → mag z < 2147483648 → to_z w32 (of_z w32 z) ≡ z
through z h = to_z-of_z w32 z (record { sfits = h })

small : (z : ℤ) → neg_ℤ (pos 364) ≤ℤ z → z ≤ℤ pos 364 → mag z < 32768
small (pos n) low high = omega (arith, ints)
small (negsuc n) low high = omega (arith, ints)

pub through_16 : (z : ℤ) → neg_ℤ (pos 364) ≤ℤ z → z ≤ℤ pos 364 → to_z w16 (of_z w16 z) ≡ z
through_16 z low high = to_z-of_z w16 z (record { sfits = small z low high })
