-- The mode that a sample is coded in, its context, and SIGN (T.87 A.3), for NEAR 0.
use Rattle.std.specs.Prelude.{ℕ, ◌==◌, ◌&&◌, Bool, true, false, if◌then◌else◌, ℤ, pos, negsuc, neg_ℤ, ◌+ℤ◌, ◌-ℤ◌, ◌*ℤ◌, int_lt, int_le, unsigned_abs, ◌≤ℤ◌}
use Rattle.ls_frame.specs.Parameters.{Parameters}
use Rattle.ls_coding.specs.declared.neighbours.Neighbours.{Neighbours}

-- the local gradients D1, D2 and D3 (A.3.1)
abbrev pub d1 : Neighbours → ℤ
d1 neighbours = pos neighbours.d -ℤ pos neighbours.b

abbrev pub d2 : Neighbours → ℤ
d2 neighbours = pos neighbours.b -ℤ pos neighbours.c

abbrev pub d3 : Neighbours → ℤ
d3 neighbours = pos neighbours.c -ℤ pos neighbours.a

abbrev pub is_zero : ℤ → Bool
is_zero (pos number) = number == 0
is_zero (negsuc number) = false

-- run mode if all three are 0 (A.3.2)
abbrev pub is_run : Neighbours → Bool
is_run neighbours = is_zero (d1 neighbours) && is_zero (d2 neighbours) && is_zero (d3 neighbours)

-- the region of a gradient, -4 to 4 (A.3.3)
abbrev pub region : Parameters → ℤ → ℤ
region p gradient =
    if int_le gradient (neg_ℤ (pos p.t3)) then neg_ℤ (pos 4)
    else (if int_le gradient (neg_ℤ (pos p.t2)) then neg_ℤ (pos 3)
    else (if int_le gradient (neg_ℤ (pos p.t1)) then neg_ℤ (pos 2)
    else (if int_lt gradient (pos 0) then neg_ℤ (pos 1)
    else (if int_le gradient (pos 0) then pos 0
    else (if int_lt gradient (pos p.t1) then pos 1
    else (if int_lt gradient (pos p.t2) then pos 2
    else (if int_lt gradient (pos p.t3) then pos 3
    else pos 4)))))))

pub record IsRegion (q : ℤ) : Type 0 where
  pub low : neg_ℤ (pos 4) ≤ℤ q
  pub high : q ≤ℤ pos 4

-- a context: its number, 0 to 364, and whether SIGN is -1
pub record Context : Type 0 where
  pub number : ℕ
  pub negative : Bool

-- whether the first of the three that isn't 0 is negative (A.3.4)
abbrev pub first_negative : ℤ → ℤ → ℤ → Bool
first_negative q1 q2 q3 =
    if is_zero q1 then (if is_zero q2 then int_lt q3 (pos 0) else int_lt q2 (pos 0)) else int_lt q1 (pos 0)

-- a number with its sign changed if SIGN is -1
abbrev pub signed : Bool → ℤ → ℤ
signed true number = neg_ℤ number
signed false number = number

-- three regions as one number; T.87 leaves the numbering open (A.3.4)
abbrev pub context_number : ℤ → ℤ → ℤ → ℤ
context_number q1 q2 q3 = pos 81 *ℤ q1 +ℤ pos 9 *ℤ q2 +ℤ q3

-- the context of three regions: all three have their signs changed if the first that isn't 0 is negative (A.3.4)
abbrev pub merged : ℤ → ℤ → ℤ → Context
merged q1 q2 q3 = let negative = first_negative q1 q2 q3 in record {
  number = unsigned_abs (context_number (signed negative q1) (signed negative q2) (signed negative q3));
  negative = negative;
}

unfoldable pub context_of : Parameters → Neighbours → Context
context_of p neighbours = merged (region p (d1 neighbours)) (region p (d2 neighbours)) (region p (d3 neighbours))
