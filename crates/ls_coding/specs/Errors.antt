-- Prediction, the error, and the mapped error (T.87 A.4, A.5), for NEAR 0.
use Rattle.std.specs.Prelude.{ℕ, ◌+◌, ◌-◌, ◌*◌, ◌/◌, ◌==◌, ◌&&◌, min, max, nat_le, Bool, if◌then◌else◌, ℤ, pos, neg_ℤ, ◌+ℤ◌, ◌-ℤ◌, ◌*ℤ◌, int_lt, int_le, ◌<ℤ◌, ◌≤ℤ◌, unsigned_abs}
use Rattle.ls_frame.specs.Parameters.{Parameters, range_of}
use Rattle.ls_coding.specs.declared.neighbours.Neighbours.{Neighbours}
use Rattle.ls_coding.specs.Numbers.{clamped}
use Rattle.ls_coding.specs.Contexts.{signed}

-- the edge-detecting predictor (A.4.1)
abbrev pub median : Neighbours → ℕ
median neighbours =
    if nat_le (max neighbours.a neighbours.b) neighbours.c then min neighbours.a neighbours.b
    else (if nat_le neighbours.c (min neighbours.a neighbours.b) then max neighbours.a neighbours.b
    else neighbours.a + neighbours.b - neighbours.c)

-- the prediction corrected by the context's C, and clamped to the range 0 to MAXVAL (A.4.2)
abbrev pub predicted : Parameters → Bool → ℤ → Neighbours → ℤ
predicted p negative c neighbours = clamped (pos 0) (pos p.maxval) (pos (median neighbours) +ℤ signed negative c)

-- an error with RANGE added if it is negative (A.4.5)
abbrev pub nonnegative : ℕ → ℤ → ℤ
nonnegative range e = if int_lt e (pos 0) then e +ℤ pos range else e

-- an error modulo RANGE (A.4.5): from -RANGE / 2 to (RANGE - 1) / 2, both rounded towards 0
abbrev pub reduced : ℕ → ℤ → ℤ
reduced range e = let residue = nonnegative range e in if int_le (pos ((range + 1) / 2)) residue then residue -ℤ pos range else residue

pub record IsReduced (range : ℕ) (e : ℤ) : Type 0 where
  pub low : neg_ℤ (pos (range / 2)) ≤ℤ e
  pub high : e <ℤ pos ((range + 1) / 2)

-- the reduced error of a sample for a prediction (A.4.3, A.4.5)
abbrev pub error_of : Parameters → Bool → ℤ → ℕ → ℤ
error_of p negative prediction sample = reduced (range_of p.maxval) (signed negative (pos sample -ℤ prediction))

-- MErrval, the mapped error (A.5.2). If k is 0 and 2 * B is at most -N, odd numbers stand for the errors from 0 up
abbrev pub is_inverted : ℕ → ℤ → ℕ → Bool
is_inverted k b n = k == 0 && int_le (pos 2 *ℤ b) (neg_ℤ (pos n))

abbrev pub mapped_error : Bool → ℤ → ℕ
mapped_error inverted e =
    if inverted
    then (if int_le (pos 0) e then 2 * unsigned_abs e + 1 else 2 * unsigned_abs (e +ℤ pos 1))
    else (if int_le (pos 0) e then 2 * unsigned_abs e else 2 * unsigned_abs e - 1)
