-- Reduced errors, and the samples that have them.
use Rattle.std.proofs.Common.{◌≡◌, ℕ, ◌+◌, ◌-◌, ◌/◌, ◌<◌, ◌≤◌, Bool, true, false, cond, ℤ, pos, neg_ℤ, ◌+ℤ◌, ◌-ℤ◌, ◌≤ℤ◌, ◌<ℤ◌, refl, sym, ◌∙◌, ap, subst, arith}
use Rattle.std.specs.Prelude.{int_le, int_lt}
use Rattle.std.specs.Int.{int_max, int_min}
use Rattle.std.proofs.lemmas.Int.{ints, clamps}
use Rattle.ls_frame.specs.Parameters.{Parameters, range_of}
use mir.Syntax.{w32}
use mir.Val.{to_z, of_z}
use Rattle.std.proofs.lemmas.Bool.{cond-true}
use Rattle.ls_coding.specs.declared.neighbours.Neighbours.{Neighbours}
use Rattle.ls_coding.specs.Samples.{AreSamples, Interrupts}
use Rattle.ls_coding.specs.Contexts.{signed}
use Rattle.ls_coding.specs.Interruptions.{ri_type_of, interruption_negative, interruption_prediction, interruption_error}
use Rattle.ls_coding.specs.Errors.{median, IsReduced, reduced, error_of}
use Rattle.ls_coding.proofs.StatsLemmas.{choose, le_true, le_false, lt_true, lt_false, mean_through}

-- d is e, or e with RANGE added or subtracted
data IsAlike (range : ℕ) (d e : ℤ) : Type 0 where
  here : d ≡ e → IsAlike range d e
  above : d ≡ e +ℤ pos range → IsAlike range d e
  below : d ≡ e -ℤ pos range → IsAlike range d e

signed_residue : ℕ → ℤ → ℤ
signed_residue range up = cond (int_le (pos ((range + 1) / 2)) up) (up -ℤ pos range) up

signed_residue_alike : (range : ℕ) (d : ℤ) → d <ℤ pos range → IsAlike range d (signed_residue range d)
unfolding signed_residue
signed_residue_alike range d high =
    choose (int_le (pos ((range + 1) / 2)) d) (d -ℤ pos range) d (IsAlike range d) (λ e. above (omega (arith, ints))) (λ e. here refl)

nonnegative_alike : (range : ℕ) (d : ℤ) → neg_ℤ (pos range) <ℤ d → d <ℤ pos 0 → IsAlike range d (signed_residue range (d +ℤ pos range))
unfolding signed_residue
nonnegative_alike range d low high =
    choose (int_le (pos ((range + 1) / 2)) (d +ℤ pos range)) (d +ℤ pos range -ℤ pos range) (d +ℤ pos range) (IsAlike range d)
    (λ e. here (omega (arith, ints))) (λ e. below (omega (arith, ints)))

-- reducing adds or subtracts RANGE at most once
reduced_alike : (range : ℕ) (d : ℤ) → neg_ℤ (pos range) <ℤ d → d <ℤ pos range → IsAlike range d (reduced range d)
unfolding signed_residue
reduced_alike range d low high =
    choose (int_lt d (pos 0)) (d +ℤ pos range) d (λ up. IsAlike range d (signed_residue range up))
    (λ e. nonnegative_alike range d low (lt_true d (pos 0) e)) (λ e. signed_residue_alike range d high)

signed_residue_reduced : (range : ℕ) (up : ℤ) → pos 0 ≤ℤ up → up <ℤ pos range → IsReduced range (signed_residue range up)
unfolding signed_residue
signed_residue_reduced range up low high =
    choose (int_le (pos ((range + 1) / 2)) up) (up -ℤ pos range) up (IsReduced range)
    (λ e. let h = le_true (pos ((range + 1) / 2)) up e in record { low = omega (arith, ints, h); high = omega (arith, ints, h) })
    (λ e. let h = le_false (pos ((range + 1) / 2)) up e in record { low = omega (arith, ints, h); high = omega (arith, ints, h) })

reduced_reduced : (range : ℕ) (d : ℤ) → neg_ℤ (pos range) <ℤ d → d <ℤ pos range → IsReduced range (reduced range d)
unfolding signed_residue
reduced_reduced range d low high =
    choose (int_lt d (pos 0)) (d +ℤ pos range) d (λ up. IsReduced range (signed_residue range up))
    (λ e. let h = lt_true d (pos 0) e in signed_residue_reduced range (d +ℤ pos range) (omega (arith, ints, h)) (omega (arith, ints, h)))
    (λ e. let h = lt_false d (pos 0) e in signed_residue_reduced range d h high)

-- an error is alike to only one reduced error
alike_once : (range : ℕ) (d e f : ℤ) → IsReduced range e → IsReduced range f → IsAlike range d e → IsAlike range d f → e ≡ f
alike_once range d e f h k (here p) (here q) = omega (arith, ints)
alike_once range d e f h k (here p) (above q) = absurd (omega (arith, ints, h.low, h.high, k.low, k.high))
alike_once range d e f h k (here p) (below q) = absurd (omega (arith, ints, h.low, h.high, k.low, k.high))
alike_once range d e f h k (above p) (here q) = absurd (omega (arith, ints, h.low, h.high, k.low, k.high))
alike_once range d e f h k (above p) (above q) = omega (arith, ints)
alike_once range d e f h k (above p) (below q) = absurd (omega (arith, ints, h.low, h.high, k.low, k.high))
alike_once range d e f h k (below p) (here q) = absurd (omega (arith, ints, h.low, h.high, k.low, k.high))
alike_once range d e f h k (below p) (above q) = absurd (omega (arith, ints, h.low, h.high, k.low, k.high))
alike_once range d e f h k (below p) (below q) = omega (arith, ints)

reduced_is : (range : ℕ) (d e : ℤ) → neg_ℤ (pos range) <ℤ d → d <ℤ pos range → IsReduced range e → IsAlike range d e → reduced range d ≡ e
reduced_is range d e low high h alike =
    alike_once range d (reduced range d) e (reduced_reduced range d low high) h (reduced_alike range d low high) alike

-- ---- the sample of an error

modulo_range : ℕ → ℤ → ℤ
modulo_range range z = cond (int_lt z (pos 0)) (z +ℤ pos range) (cond (int_le (pos range) z) (z -ℤ pos range) z)

modulo_alike : (range : ℕ) (z : ℤ) → IsAlike range z (modulo_range range z)
unfolding modulo_range
modulo_alike range z =
    choose (int_lt z (pos 0)) (z +ℤ pos range) (cond (int_le (pos range) z) (z -ℤ pos range) z) (IsAlike range z)
    (λ e. below (omega (arith, ints)))
    (λ e. choose (int_le (pos range) z) (z -ℤ pos range) z (IsAlike range z) (λ f. above (omega (arith, ints))) (λ f. here refl))

-- a sample alike to the prediction with the error added has that error
has_error : (range px x : ℕ) (negative : Bool) (e z : ℤ) → z ≡ pos px +ℤ signed negative e → IsAlike range z (pos x) → IsAlike range (signed negative (pos x -ℤ pos px)) e
has_error range px x true e z sum (here p) = here (omega (arith, ints))
has_error range px x true e z sum (above p) = above (omega (arith, ints))
has_error range px x true e z sum (below p) = below (omega (arith, ints))
has_error range px x false e z sum (here p) = here (omega (arith, ints))
has_error range px x false e z sum (above p) = below (omega (arith, ints))
has_error range px x false e z sum (below p) = above (omega (arith, ints))

difference_low : (range px x : ℕ) (negative : Bool) → px < range → x < range → neg_ℤ (pos range) <ℤ signed negative (pos x -ℤ pos px)
difference_low range px x true h k = omega (arith, ints)
difference_low range px x false h k = omega (arith, ints)

difference_high : (range px x : ℕ) (negative : Bool) → px < range → x < range → signed negative (pos x -ℤ pos px) <ℤ pos range
difference_high range px x true h k = omega (arith, ints)
difference_high range px x false h k = omega (arith, ints)

pub sample_has : (range px x : ℕ) (negative : Bool) (e z : ℤ) → px < range → x < range → IsReduced range e → z ≡ pos px +ℤ signed negative e
    → pos x ≡ cond (int_lt z (pos 0)) (z +ℤ pos range) (cond (int_le (pos range) z) (z -ℤ pos range) z)
    → reduced range (signed negative (pos x -ℤ pos px)) ≡ e
unfolding modulo_range
sample_has range px x negative e z h k error sum back =
    reduced_is range (signed negative (pos x -ℤ pos px)) e (difference_low range px x negative h k) (difference_high range px x negative h k) error
    (has_error range px x negative e z sum (subst (IsAlike range z) (sym back) (modulo_alike range z)))

-- no other sample has it
same_sample : (range px x y : ℕ) (negative : Bool) (e : ℤ) → x < range → y < range
    → IsAlike range (signed negative (pos x -ℤ pos px)) e → IsAlike range (signed negative (pos y -ℤ pos px)) e → x ≡ y
same_sample range px x y true e h k (here p) (here q) = omega (arith, ints)
same_sample range px x y true e h k (here p) (above q) = omega (arith, ints)
same_sample range px x y true e h k (here p) (below q) = omega (arith, ints)
same_sample range px x y true e h k (above p) (here q) = omega (arith, ints)
same_sample range px x y true e h k (above p) (above q) = omega (arith, ints)
same_sample range px x y true e h k (above p) (below q) = absurd (omega (arith, ints))
same_sample range px x y true e h k (below p) (here q) = omega (arith, ints)
same_sample range px x y true e h k (below p) (above q) = absurd (omega (arith, ints))
same_sample range px x y true e h k (below p) (below q) = omega (arith, ints)
same_sample range px x y false e h k (here p) (here q) = omega (arith, ints)
same_sample range px x y false e h k (here p) (above q) = omega (arith, ints)
same_sample range px x y false e h k (here p) (below q) = omega (arith, ints)
same_sample range px x y false e h k (above p) (here q) = omega (arith, ints)
same_sample range px x y false e h k (above p) (above q) = omega (arith, ints)
same_sample range px x y false e h k (above p) (below q) = absurd (omega (arith, ints))
same_sample range px x y false e h k (below p) (here q) = omega (arith, ints)
same_sample range px x y false e h k (below p) (above q) = absurd (omega (arith, ints))
same_sample range px x y false e h k (below p) (below q) = omega (arith, ints)

pub sample_once : (range px x y : ℕ) (negative : Bool) (e z : ℤ) → px < range → x < range → y < range → z ≡ pos px +ℤ signed negative e
    → pos x ≡ cond (int_lt z (pos 0)) (z +ℤ pos range) (cond (int_le (pos range) z) (z -ℤ pos range) z)
    → reduced range (signed negative (pos y -ℤ pos px)) ≡ e → y ≡ x
unfolding modulo_range
sample_once range px x y negative e z h k l sum back same =
    same_sample range px y x negative e l k
    (subst (IsAlike range (signed negative (pos y -ℤ pos px))) same
    (reduced_alike range (signed negative (pos y -ℤ pos px)) (difference_low range px y negative h l) (difference_high range px y negative h l)))
    (has_error range px x negative e z sum (subst (IsAlike range z) (sym back) (modulo_alike range z)))

-- no two samples have the same error
pub error_of-once : (p : Parameters) (px x y : ℕ) (negative : Bool) → px ≤ p.maxval → x ≤ p.maxval → y ≤ p.maxval
    → error_of p negative (pos px) x ≡ error_of p negative (pos px) y → x ≡ y
error_of-once p px x y negative h k l e =
    let range : ℕ = range_of p.maxval in
    let below : px < range = omega arith in
    let inside_x : x < range = omega arith in
    let inside_y : y < range = omega arith in
    let alike : (one : ℕ) → one < range → IsAlike range (signed negative (pos one -ℤ pos px)) (error_of p negative (pos px) one) =
    λ one inside. reduced_alike range (signed negative (pos one -ℤ pos px)) (difference_low range px one negative below inside) (difference_high range px one negative below inside) in
    same_sample range px x y negative (error_of p negative (pos px) y) inside_x inside_y
    (subst (IsAlike range (signed negative (pos x -ℤ pos px))) e (alike x inside_x)) (alike y inside_y)

-- ---- as the code passes numbers

-- a sum of two numbers that aren't large
pub sum_is : (x y p q : ℤ) → x ≡ p → y ≡ q → neg_ℤ (pos 131072) ≤ℤ (p +ℤ q) → (p +ℤ q) ≤ℤ pos 131072 → to_z w32 (of_z w32 (x +ℤ y)) ≡ p +ℤ q
sum_is x y p q a b low high = ap (λ z. to_z w32 (of_z w32 (z +ℤ y))) a ∙ ap (λ z. to_z w32 (of_z w32 (p +ℤ z))) b ∙ mean_through (p +ℤ q) low high

pub difference_is : (x y p q : ℤ) → x ≡ p → y ≡ q → neg_ℤ (pos 131072) ≤ℤ (p -ℤ q) → (p -ℤ q) ≤ℤ pos 131072 → to_z w32 (of_z w32 (x -ℤ y)) ≡ p -ℤ q
difference_is x y p q a b low high = ap (λ z. to_z w32 (of_z w32 (z -ℤ y))) a ∙ ap (λ z. to_z w32 (of_z w32 (p -ℤ z))) b ∙ mean_through (p -ℤ q) low high

pub signed_low : (negative : Bool) (maxval px : ℕ) (e : ℤ) → maxval ≤ 65535 → px ≤ maxval → IsReduced (maxval + 1) e → neg_ℤ (pos 131072) ≤ℤ (pos px +ℤ signed negative e)
signed_low true maxval px e most h k = omega (arith, ints, k.low, k.high)
signed_low false maxval px e most h k = omega (arith, ints, k.low, k.high)

pub signed_high : (negative : Bool) (maxval px : ℕ) (e : ℤ) → maxval ≤ 65535 → px ≤ maxval → IsReduced (maxval + 1) e → (pos px +ℤ signed negative e) ≤ℤ pos 131072
signed_high true maxval px e most h k = omega (arith, ints, k.low, k.high)
signed_high false maxval px e most h k = omega (arith, ints, k.low, k.high)

-- each sample's error is reduced
pub error_of-reduced : (p : Parameters) (px x : ℕ) (negative : Bool) → px ≤ p.maxval → x ≤ p.maxval → IsReduced (range_of p.maxval) (error_of p negative (pos px) x)
error_of-reduced p px x negative h k =
    let below : px < range_of p.maxval = omega arith in
    let inside : x < range_of p.maxval = omega arith in
    reduced_reduced (range_of p.maxval) (signed negative (pos x -ℤ pos px)) (difference_low (range_of p.maxval) px x negative below inside) (difference_high (range_of p.maxval) px x negative below inside)

-- a sample other than the prediction has an error other than 0
zero_alike : (range px x : ℕ) (negative : Bool) → px < range → x < range → IsAlike range (signed negative (pos x -ℤ pos px)) (pos 0) → x ≡ px
zero_alike range px x true h k (here p) = omega (arith, ints)
zero_alike range px x true h k (above p) = absurd (omega (arith, ints))
zero_alike range px x true h k (below p) = absurd (omega (arith, ints))
zero_alike range px x false h k (here p) = omega (arith, ints)
zero_alike range px x false h k (above p) = absurd (omega (arith, ints))
zero_alike range px x false h k (below p) = absurd (omega (arith, ints))

pub error_of-zero : (p : Parameters) (px x : ℕ) (negative : Bool) → px ≤ p.maxval → x ≤ p.maxval → error_of p negative (pos px) x ≡ pos 0 → x ≡ px
error_of-zero p px x negative h k e =
    let below : px < range_of p.maxval = omega arith in
    let inside : x < range_of p.maxval = omega arith in
    zero_alike (range_of p.maxval) px x negative below inside
    (subst (IsAlike (range_of p.maxval) (signed negative (pos x -ℤ pos px))) e
    (reduced_alike (range_of p.maxval) (signed negative (pos x -ℤ pos px)) (difference_low (range_of p.maxval) px x negative below inside) (difference_high (range_of p.maxval) px x negative below inside)))

pub interruption_prediction_small : (maxval : ℕ) (n : Neighbours) → AreSamples maxval n → interruption_prediction n ≤ maxval
interruption_prediction_small maxval n h = choose (ri_type_of n) n.a n.b (λ v. v ≤ maxval) (λ e. h.left) (λ e. h.above)

pub interrupting_error : (p : Parameters) (n : Neighbours) (sample : ℕ) → AreSamples p.maxval n → Interrupts p.maxval n.a sample → ri_type_of n ≡ true → interruption_error p n sample ≡ pos 0 → ⊥
interrupting_error p n sample h k ri_type e =
    k.other (error_of-zero p (interruption_prediction n) sample (interruption_negative n) (interruption_prediction_small p.maxval n h) k.within e ∙ cond-true (ri_type_of n) n.a n.b ri_type)

-- ---- the median from two differences in the line above

pub median_is : (a b c d : ℕ) → int_max (int_min (pos a +ℤ pos (b - c)) (pos b)) (pos a -ℤ pos (c - b)) ≡ pos (median (record { a = a; b = b; c = c; d = d }))
median_is a b c d = grind (arith, ints, clamps)

pub passed : (z : ℤ) (n : ℕ) → z ≡ pos n → n ≤ 65535 → to_z w32 (of_z w32 z) ≡ pos n
passed z n e h = ap (λ x. to_z w32 (of_z w32 x)) e ∙ mean_through (pos n) (omega (arith, ints)) (omega (arith, ints))

pub min_same : (x y p q : ℤ) → x ≡ p → y ≡ q → int_min x y ≡ int_min p q
min_same x y p q e f = ap (λ z. int_min z y) e ∙ ap (int_min p) f

pub max_same : (x y p q : ℤ) → x ≡ p → y ≡ q → int_max x y ≡ int_max p q
max_same x y p q e f = ap (λ z. int_max z y) e ∙ ap (int_max p) f
