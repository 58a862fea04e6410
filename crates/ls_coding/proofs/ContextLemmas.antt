-- Three regions as one number.
use Rattle.std.proofs.Common.{◌≡◌, ℕ, zero, suc, ◌+◌, ◌*◌, ◌≤◌, inl, inr, subst, List, length, get_or, Bool, true, false, cond, eqb, ℤ, pos, negsuc, neg_ℤ, ◌<◌, ◌-◌, ◌≤ℤ◌, ◌<ℤ◌, refl, sym, ◌∙◌, ap, arith}
use Rattle.std.specs.Prelude.{◌&&◌, int_lt, int_le, unsigned_abs, ◌+ℤ◌, ◌-ℤ◌, ◌*ℤ◌}
use Rattle.std.proofs.Math.ListN.{set}
use Rattle.std.proofs.lemmas.Int.{ints, to_z-of_z}
use Rattle.std.proofs.lemmas.Bool.{ne_eqb, cond-false, cases_lt}
use Rattle.std.proofs.lemmas.List.{get_or-set_same, get_or-set_other}
use lib.Signed.{mag}
use mir.Syntax.{w8, w16}
use mir.Val.{to_z, of_z}
use Rattle.ls_frame.specs.Parameters.{Parameters, IsLegal}
use Rattle.ls_coding.proofs.SignedLemmas.{through_16}
use Rattle.ls_coding.specs.declared.neighbours.Neighbours.{Neighbours}
use Rattle.ls_coding.specs.View.RegionTables.{AreRegions}
use Rattle.ls_coding.specs.Contexts.{IsRegion, region, context_of, d1, d2, d3, is_zero, first_negative, signed, context_number, merged}
use Rattle.ls_coding.specs.View.SignedContexts.{signed_context, half_context}

below_zero : (z : ℤ) → z <ℤ pos 0 → int_lt z (pos 0) ≡ true
below_zero z h = grind (arith, ints)

from_zero : (z : ℤ) → pos 0 ≤ℤ z → int_lt z (pos 0) ≡ false
from_zero z h = grind (arith, ints)

-- the sign of the number is that of the first region that isn't 0
sign_3 : (q3 : ℤ) → int_lt (context_number (pos 0) (pos 0) q3) (pos 0) ≡ int_lt q3 (pos 0)
sign_3 (pos n) =
    let sum : pos 0 ≤ℤ (context_number (pos 0) (pos 0) (pos n)) = omega (arith, ints) in
    let part : pos 0 ≤ℤ pos n = omega (arith, ints) in
    from_zero (context_number (pos 0) (pos 0) (pos n)) sum ∙ sym (from_zero (pos n) part)
sign_3 (negsuc n) =
    let sum : context_number (pos 0) (pos 0) (negsuc n) <ℤ pos 0 = omega (arith, ints) in
    below_zero (context_number (pos 0) (pos 0) (negsuc n)) sum

not_zero : (n : ℕ) → eqb (suc n) 0 ≡ false
not_zero n = ne_eqb (suc n) 0 (λ e. absurd (omega arith))

above_zero : (n : ℕ) → int_lt (pos (suc n)) (pos 0) ≡ false
above_zero n = let h : pos 0 ≤ℤ pos (suc n) = omega (arith, ints) in from_zero (pos (suc n)) h

sign_2 : (q2 q3 : ℤ) → IsRegion q3 → int_lt (context_number (pos 0) q2 q3) (pos 0) ≡ cond (is_zero q2) (int_lt q3 (pos 0)) (int_lt q2 (pos 0))
sign_2 (pos zero) q3 s = sign_3 q3
sign_2 (pos (suc n)) q3 s =
    let sum : pos 0 ≤ℤ (context_number (pos 0) (pos (suc n)) q3) = omega (arith, ints, s.low) in
    from_zero (context_number (pos 0) (pos (suc n)) q3) sum ∙ sym (cond-false _ _ _ (not_zero n) ∙ above_zero n)
sign_2 (negsuc n) q3 s =
    let sum : context_number (pos 0) (negsuc n) q3 <ℤ pos 0 = omega (arith, ints, s.high) in
    below_zero (context_number (pos 0) (negsuc n) q3) sum

sign_1 : (q1 q2 q3 : ℤ) → IsRegion q2 → IsRegion q3 → int_lt (context_number q1 q2 q3) (pos 0) ≡ first_negative q1 q2 q3
sign_1 (pos zero) q2 q3 s t = sign_2 q2 q3 t
sign_1 (pos (suc n)) q2 q3 s t =
    let sum : pos 0 ≤ℤ (context_number (pos (suc n)) q2 q3) = omega (arith, ints, s.low, t.low) in
    from_zero (context_number (pos (suc n)) q2 q3) sum ∙ sym (cond-false _ _ _ (not_zero n) ∙ above_zero n)
sign_1 (negsuc n) q2 q3 s t =
    let sum : context_number (negsuc n) q2 q3 <ℤ pos 0 = omega (arith, ints, s.high, t.high) in
    below_zero (context_number (negsuc n) q2 q3) sum

-- changing all three signs changes the number's
negated : (q1 q2 q3 : ℤ) → context_number (neg_ℤ q1) (neg_ℤ q2) (neg_ℤ q3) ≡ neg_ℤ (context_number q1 q2 q3)
negated q1 q2 q3 = omega (arith, ints)

size_neg : (z : ℤ) → unsigned_abs (neg_ℤ z) ≡ unsigned_abs z
size_neg (pos zero) = refl
size_neg (pos (suc n)) = refl
size_neg (negsuc n) = refl

size_signed : (negative : Bool) (q1 q2 q3 : ℤ) → unsigned_abs (context_number (signed negative q1) (signed negative q2) (signed negative q3)) ≡ unsigned_abs (context_number q1 q2 q3)
size_signed true q1 q2 q3 = ap unsigned_abs (negated q1 q2 q3) ∙ size_neg (context_number q1 q2 q3)
size_signed false q1 q2 q3 = refl

pub merged-number : (q1 q2 q3 : ℤ) → (merged q1 q2 q3).number ≡ unsigned_abs (context_number q1 q2 q3)
merged-number q1 q2 q3 = size_signed (first_negative q1 q2 q3) q1 q2 q3

pub merged-negative : (q1 q2 q3 : ℤ) → IsRegion q2 → IsRegion q3 → (merged q1 q2 q3).negative ≡ int_lt (context_number q1 q2 q3) (pos 0)
merged-negative q1 q2 q3 s t = sym (sign_1 q1 q2 q3 s t)

-- ---- the number with its sign

region_by : (test : Bool) (x y : ℤ) → IsRegion x → IsRegion y → IsRegion (cond test x y)
region_by true x y h k = h
region_by false x y h k = k

far_below : IsRegion (neg_ℤ (pos 4))
far_below = record { low = omega (arith, ints); high = omega (arith, ints) }

well_below : IsRegion (neg_ℤ (pos 3))
well_below = record { low = omega (arith, ints); high = omega (arith, ints) }

below : IsRegion (neg_ℤ (pos 2))
below = record { low = omega (arith, ints); high = omega (arith, ints) }

just_below : IsRegion (neg_ℤ (pos 1))
just_below = record { low = omega (arith, ints); high = omega (arith, ints) }

level : IsRegion (pos 0)
level = record { low = omega (arith, ints); high = omega (arith, ints) }

just_above : IsRegion (pos 1)
just_above = record { low = omega (arith, ints); high = omega (arith, ints) }

above : IsRegion (pos 2)
above = record { low = omega (arith, ints); high = omega (arith, ints) }

well_above : IsRegion (pos 3)
well_above = record { low = omega (arith, ints); high = omega (arith, ints) }

far_above : IsRegion (pos 4)
far_above = record { low = omega (arith, ints); high = omega (arith, ints) }

pub region_range : (p : Parameters) (d : ℤ) → IsRegion (region p d)
region_range p d =
    region_by _ _ _ far_below (region_by _ _ _ well_below (region_by _ _ _ below (region_by _ _ _ just_below (region_by _ _ _ level (region_by _ _ _ just_above (region_by _ _ _ above (region_by _ _ _ well_above (far_above))))))))

pub region_through : (z : ℤ) → IsRegion z → to_z w16 (of_z w16 z) ≡ z
region_through z r = through_16 z (omega (arith, ints, r.low)) (omega (arith, ints, r.high))

pub signed_range : (p : Parameters) (n : Neighbours) → (neg_ℤ (pos 364) ≤ℤ signed_context p n) × (signed_context p n ≤ℤ pos 364)
unfolding signed_context
signed_range p n =
    let a = region_range p (d1 n) in
    let b = region_range p (d2 n) in
    let c = region_range p (d3 n) in
    (omega (arith, ints, a.low, b.low, c.low), omega (arith, ints, a.high, b.high, c.high))

-- the context that it stands for
pub signed_splits : (p : Parameters) (n : Neighbours) → ((context_of p n).number ≡ unsigned_abs (signed_context p n)) × ((context_of p n).negative ≡ int_lt (signed_context p n) (pos 0))
unfolding context_of signed_context
signed_splits p n = (
  merged-number (region p (d1 n)) (region p (d2 n)) (region p (d3 n)),
  merged-negative (region p (d1 n)) (region p (d2 n)) (region p (d3 n)) (region_range p (d2 n)) (region_range p (d3 n)),
)

-- passed as its bits
pub context_through : (p : Parameters) (n : Neighbours) (z : ℤ) → z ≡ signed_context p n → to_z w16 (of_z w16 z) ≡ signed_context p n
context_through p n z e =
    let range = signed_range p n in
    ap (λ x. to_z w16 (of_z w16 x)) e ∙ through_16 (signed_context p n) range.0 range.1

-- it is 0 exactly where all three regions are
zero_below : (z : ℤ) → z <ℤ pos 0 → is_zero z ≡ false
zero_below (pos n) h = absurd (omega (arith, ints))
zero_below (negsuc n) h = refl

zero_above : (z : ℤ) → pos 0 <ℤ z → is_zero z ≡ false
zero_above (pos zero) h = absurd (omega (arith, ints))
zero_above (pos (suc n)) h = not_zero n
zero_above (negsuc n) h = refl

zero_3 : (q3 : ℤ) → is_zero (context_number (pos 0) (pos 0) q3) ≡ is_zero q3
zero_3 (pos zero) = refl
zero_3 (pos (suc n)) =
    let sum : pos 0 <ℤ context_number (pos 0) (pos 0) (pos (suc n)) = omega (arith, ints) in
    zero_above (context_number (pos 0) (pos 0) (pos (suc n))) sum ∙ sym (not_zero n)
zero_3 (negsuc n) = let sum : context_number (pos 0) (pos 0) (negsuc n) <ℤ pos 0 = omega (arith, ints) in zero_below (context_number (pos 0) (pos 0) (negsuc n)) sum

zero_2 : (q2 q3 : ℤ) → IsRegion q3 → is_zero (context_number (pos 0) q2 q3) ≡ (is_zero q2 && is_zero q3)
zero_2 (pos zero) q3 t = zero_3 q3
zero_2 (pos (suc n)) q3 t =
    let sum : pos 0 <ℤ context_number (pos 0) (pos (suc n)) q3 = omega (arith, ints, t.low) in
    zero_above (context_number (pos 0) (pos (suc n)) q3) sum ∙ ap (λ b. b && is_zero q3) (sym (not_zero n))
zero_2 (negsuc n) q3 t = let sum : context_number (pos 0) (negsuc n) q3 <ℤ pos 0 = omega (arith, ints, t.high) in zero_below (context_number (pos 0) (negsuc n) q3) sum

pub zero_1 : (q1 q2 q3 : ℤ) → IsRegion q2 → IsRegion q3 → is_zero (context_number q1 q2 q3) ≡ (is_zero q1 && is_zero q2 && is_zero q3)
zero_1 (pos zero) q2 q3 s t = zero_2 q2 q3 t
zero_1 (pos (suc n)) q2 q3 s t =
    let sum : pos 0 <ℤ context_number (pos (suc n)) q2 q3 = omega (arith, ints, s.low, t.low) in
    zero_above (context_number (pos (suc n)) q2 q3) sum ∙ ap (λ b. b && is_zero q2 && is_zero q3) (sym (not_zero n))
zero_1 (negsuc n) q2 q3 s t = let sum : context_number (negsuc n) q2 q3 <ℤ pos 0 = omega (arith, ints, s.high, t.high) in zero_below (context_number (negsuc n) q2 q3) sum

-- ---- the part of the line above, and the complete number

abbrev pub half_number : ℤ → ℤ → ℤ
half_number q1 q2 = pos 81 *ℤ q1 +ℤ pos 9 *ℤ q2

pub half_range : (p : Parameters) (b c d : ℕ) → (neg_ℤ (pos 360) ≤ℤ half_context p b c d) × (half_context p b c d ≤ℤ pos 360)
unfolding half_context
half_range p b c d =
    let q1 = region_range p (pos d -ℤ pos b) in
    let q2 = region_range p (pos b -ℤ pos c) in
    (omega (arith, ints, q1.low, q2.low), omega (arith, ints, q1.high, q2.high))

pub signed_context-halves : (p : Parameters) (n : Neighbours) → signed_context p n ≡ half_context p n.b n.c n.d +ℤ region p (d3 n)
unfolding signed_context half_context
signed_context-halves p n = refl

pub whole_through : (half r : ℤ) → neg_ℤ (pos 360) ≤ℤ half → half ≤ℤ pos 360 → IsRegion r
    → to_z w16 (of_z w16 (to_z w16 (of_z w16 half) +ℤ to_z w16 (of_z w16 r))) ≡ half +ℤ r
whole_through half r low high region =
    ap (λ z. to_z w16 (of_z w16 (z +ℤ to_z w16 (of_z w16 r)))) (through_16 half (omega (arith, ints)) (omega (arith, ints)))
    ∙ ap (λ z. to_z w16 (of_z w16 (half +ℤ z))) (region_through r region)
    ∙ through_16 (half +ℤ r) (omega (arith, ints, region.low)) (omega (arith, ints, region.high))

-- a region is 0 exactly where the gradient is
choose_region : (test : Bool) (x y : ℤ) (P : ℤ → Type 0) → (test ≡ true → P x) → (test ≡ false → P y) → P (cond test x y)
choose_region true x y P f g = f refl
choose_region false x y P f g = g refl

below_not : (z : ℤ) → z <ℤ pos 0 → int_lt z (pos 0) ≡ false → ⊥
below_not z h e = grind (arith, ints)

not_below : (z : ℤ) → pos 0 <ℤ z → int_lt z (pos 0) ≡ true → ⊥
not_below z h e = grind (arith, ints)

above_not : (t : ℕ) (z : ℤ) → pos 0 <ℤ z → int_le z (neg_ℤ (pos t)) ≡ true → ⊥
above_not t z h e = grind (arith, ints)

level_not : (t : ℕ) → 0 < t → int_le (pos 0) (neg_ℤ (pos t)) ≡ true → ⊥
level_not t h e = grind (arith, ints)

region_below : (p : Parameters) (z : ℤ) → z <ℤ pos 0 → region p z <ℤ pos 0
region_below p z h =
    let P : ℤ → Type 0 = λ v. v <ℤ pos 0 in
    choose_region (int_le z (neg_ℤ (pos p.t3))) _ _ P (λ e. omega (arith, ints))
    (λ e. choose_region (int_le z (neg_ℤ (pos p.t2))) _ _ P (λ e. omega (arith, ints))
    (λ e. choose_region (int_le z (neg_ℤ (pos p.t1))) _ _ P (λ e. omega (arith, ints))
    (λ e. choose_region (int_lt z (pos 0)) _ _ P (λ e. omega (arith, ints)) (λ e. absurd (below_not z h e)))))

region_above : (p : Parameters) (z : ℤ) → pos 0 <ℤ z → pos 0 <ℤ region p z
region_above p z h =
    let P : ℤ → Type 0 = λ v. pos 0 <ℤ v in
    choose_region (int_le z (neg_ℤ (pos p.t3))) _ _ P (λ e. absurd (above_not p.t3 z h e))
    (λ e. choose_region (int_le z (neg_ℤ (pos p.t2))) _ _ P (λ e. absurd (above_not p.t2 z h e))
    (λ e. choose_region (int_le z (neg_ℤ (pos p.t1))) _ _ P (λ e. absurd (above_not p.t1 z h e))
    (λ e. choose_region (int_lt z (pos 0)) _ _ P (λ e. absurd (not_below z h e))
    (λ e. choose_region (int_le z (pos 0)) _ _ P (λ e. absurd (above_not 0 z h e))
    (λ e. choose_region (int_lt z (pos p.t1)) _ _ P (λ e. omega (arith, ints))
    (λ e. choose_region (int_lt z (pos p.t2)) _ _ P (λ e. omega (arith, ints))
    (λ e. choose_region (int_lt z (pos p.t3)) _ _ P (λ e. omega (arith, ints)) (λ e. omega (arith, ints)))))))))

region_level : (p : Parameters) → IsLegal p → region p (pos 0) ≡ pos 0
region_level p legal =
    let P : ℤ → Type 0 = λ v. v ≡ pos 0 in
    choose_region (int_le (pos 0) (neg_ℤ (pos p.t3))) _ _ P (λ e. absurd (level_not p.t3 (omega (arith, legal.some_t1, legal.some_t2, legal.some_t3)) e))
    (λ e. choose_region (int_le (pos 0) (neg_ℤ (pos p.t2))) _ _ P (λ e. absurd (level_not p.t2 (omega (arith, legal.some_t1, legal.some_t2)) e))
    (λ e. choose_region (int_le (pos 0) (neg_ℤ (pos p.t1))) _ _ P (λ e. absurd (level_not p.t1 (omega (arith, legal.some_t1)) e))
    (λ e. refl)))

pub region-zero : (p : Parameters) (z : ℤ) → IsLegal p → is_zero (region p z) ≡ is_zero z
region-zero p (pos zero) legal = ap is_zero (region_level p legal)
region-zero p (pos (suc n)) legal =
    let some : pos 0 <ℤ pos (suc n) = omega (arith, ints) in
    zero_above (region p (pos (suc n))) (region_above p (pos (suc n)) some) ∙ sym (not_zero n)
region-zero p (negsuc n) legal =
    let less : negsuc n <ℤ pos 0 = omega (arith, ints) in
    zero_below (region p (negsuc n)) (region_below p (negsuc n) less)

-- the complete number is 0 exactly in run mode
pub whole-zero : (p : Parameters) (a b c d : ℕ) → IsLegal p → is_zero (half_context p b c d +ℤ region p (pos c -ℤ pos a))
    ≡ (is_zero (pos d -ℤ pos b) && is_zero (pos b -ℤ pos c) && is_zero (pos c -ℤ pos a))
unfolding half_context
whole-zero p a b c d legal =
    let q1 = region p (pos d -ℤ pos b) in
    let q2 = region p (pos b -ℤ pos c) in
    let q3 = region p (pos c -ℤ pos a) in
    zero_1 q1 q2 q3 (region_range p (pos b -ℤ pos c)) (region_range p (pos c -ℤ pos a))
    ∙ ap (λ t. t && is_zero q2 && is_zero q3) (region-zero p (pos d -ℤ pos b) legal)
    ∙ ap (λ t. is_zero (pos d -ℤ pos b) && t && is_zero q3) (region-zero p (pos b -ℤ pos c) legal)
    ∙ ap (λ t. is_zero (pos d -ℤ pos b) && is_zero (pos b -ℤ pos c) && t) (region-zero p (pos c -ℤ pos a) legal)

-- ---- a table of regions

small_8 : (z : ℤ) → IsRegion z → mag z < 128
small_8 (pos n) r = omega (arith, ints, r.high)
small_8 (negsuc n) r = omega (arith, ints, r.low)

pub region_through_8 : (z : ℤ) → IsRegion z → to_z w8 (of_z w8 z) ≡ z
region_through_8 z r = to_z-of_z w8 z (record { sfits = small_8 z r })

-- the difference of two numbers, from how much each exceeds the other
pub apart : (x y over under : ℕ) → over ≡ x - y → under ≡ y - x → pos over -ℤ pos under ≡ pos x -ℤ pos y
apart x y over under e f = omega (arith, ints)

-- what holds of the first k places, and of a new value at place k, holds of the first k + 1
pub set_more : (xs : List ℤ) (k : ℕ) (x : ℤ) (P : ℕ → ℤ → Type 0) → k < length xs → P k x → ((j : ℕ) → j < k → P j (get_or xs j (pos 0)))
    → (j : ℕ) → j < k + 1 → P j (get_or (set xs k x) j (pos 0))
set_more xs k x P inside here before j h =
    elim (cases_lt j k) [
      | inl earlier ↦ subst (P j) (sym (get_or-set_other xs k j x (pos 0) (λ e. omega arith))) (before j earlier)
      | inr later ↦
          let same : k ≡ j = omega arith in
          subst (λ n. P n (get_or (set xs k x) n (pos 0))) same (subst (P k) (sym (get_or-set_same xs k x (pos 0) inside)) here)
    ]

-- what is looked up in the table
pub region_read : (p : Parameters) (table : List ℤ) (over other place : ℕ) → AreRegions p table → over ≤ p.maxval → other ≤ p.maxval
    → place ≡ p.maxval + over - other → get_or table place (pos 0) ≡ region p (pos over -ℤ pos other)
region_read p table over other place regions a b at =
    let within : place < 2 * p.maxval + 1 = omega arith in
    let difference : pos place -ℤ pos p.maxval ≡ pos over -ℤ pos other = omega (arith, ints) in
    regions.regions place within ∙ ap (region p) difference
