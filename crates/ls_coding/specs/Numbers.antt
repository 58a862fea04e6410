-- What the sections of Annex A share.
use Rattle.std.specs.Prelude.{ℕ, zero, suc, ◌*◌, ◌/◌, ◌^◌, nat_le, if◌then◌else◌, ℤ, pos, negsuc, int_lt}

-- half of a number, rounded towards minus infinity
abbrev pub halved : ℤ → ℤ
halved (pos number) = pos (number / 2)
halved (negsuc number) = negsuc (number / 2)

-- number, clamped to the range low to high
abbrev pub clamped : ℤ → ℤ → ℤ → ℤ
clamped low high number = if int_lt number low then low else (if int_lt high number then high else number)

-- the first exponent from k on with n * 2^exponent at least a, among `tries` of them; k + tries if there is none
abbrev pub first_scaling : ℕ → ℕ → ℕ → ℕ → ℕ
first_scaling zero k n a = k
first_scaling (suc tries) k n a = if nat_le a (n * 2 ^ k) then k else first_scaling tries (suc k) n a

-- the Golomb parameter (A.5.1): the least k with n * 2^k at least a, for n of at least 1 and a up to 2^32
unfoldable pub golomb_parameter : ℕ → ℕ → ℕ
golomb_parameter n a = first_scaling 32 0 n a
