-- The sample that interrupts a run: its value, what the value stands for, and its counters.
use Rattle.std.proofs.Common.{◌≡◌, ℕ, zero, suc, ◌+◌, ◌-◌, ◌*◌, ◌/◌, ◌%◌, ◌<◌, ◌≤◌, Bool, true, false, cond, eqb, not, ◌||◌, ltb, leb, ℤ, pos, negsuc, neg_ℤ, refl, sym, ◌∙◌, ap, subst, arith}
use Rattle.std.specs.Prelude.{IsTrue, int_lt, unsigned_abs}
use Rattle.std.proofs.lemmas.Bool.{eqb-true, eqb-false, lt-ltb, le-ltb, cond-true, cond-false}
use Rattle.std.proofs.lemmas.Grind.{common_steps}
use mir.Val.{bool_byte}
use Rattle.ls_coding.specs.Interruptions.{AreSoundCounts, counts, counts_step, interruption_value, map_of, ri_value}
use Rattle.ls_coding.proofs.StatsLemmas.{counted_sound}

-- ---- map

-- it is 1 for the errors of one sign: for negative ones if maps_negative
marked : Bool → ℤ → ℕ
marked negative e = cond (cond negative (int_lt e (pos 0)) (int_lt (pos 0) e)) 1 0

map_is : (k n nn : ℕ) (e : ℤ) → map_of k (counts 0 n nn) e ≡ marked (not (eqb k 0) || leb n (2 * nn)) e
unfolding marked
map_is k n nn e = grind (arith, common_steps)

-- ---- the error that a value stands for

odd_below : (t m : ℕ) → m ≡ (t + 1) / 2 → t % 2 ≡ 1 → 2 * unsigned_abs (neg_ℤ (pos m)) ≡ t + marked true (neg_ℤ (pos m))
unfolding marked
odd_below t zero p q = absurd (omega arith)
odd_below t (suc m) p q = omega arith

odd_over : (t m : ℕ) → m ≡ (t + 1) / 2 → t % 2 ≡ 1 → 2 * m ≡ t + marked false (pos m)
unfolding marked
odd_over t m p q = omega (arith, cond-true {A = ℕ} (ltb 0 m) 1 0 (lt-ltb 0 m (omega arith)))

even_below : (t m : ℕ) → m ≡ (t + 1) / 2 → (t % 2 ≡ 1 → ⊥) → 2 * unsigned_abs (neg_ℤ (pos m)) ≡ t + marked false (neg_ℤ (pos m))
unfolding marked
even_below t zero p q = omega arith
even_below t (suc m) p q = omega arith

even_over : (t m : ℕ) → m ≡ (t + 1) / 2 → (t % 2 ≡ 1 → ⊥) → 2 * m ≡ t + marked true (pos m)
unfolding marked
even_over t m p q = omega (arith, cond-false {A = ℕ} (ltb m 0) 1 0 (le-ltb m 0 (omega arith)))

sized : (negative : Bool) (t m : ℕ) (odd : Bool) → eqb (t % 2) 1 ≡ odd → m ≡ (t + 1) / 2
    → let r = cond (cond negative odd (not odd)) (neg_ℤ (pos m)) (pos m) in 2 * unsigned_abs r ≡ t + marked negative r
sized true t m true e p = odd_below t m p (eqb-true (t % 2) 1 e)
sized true t m false e p = even_over t m p (eqb-false (t % 2) 1 e)
sized false t m true e p = odd_over t m p (eqb-true (t % 2) 1 e)
sized false t m false e p = even_below t m p (eqb-false (t % 2) 1 e)

taken_off : (ri_type : Bool) (size value map : ℕ) → 2 * size ≡ value + bool_byte ri_type + map → 2 * size - ri_value ri_type - map ≡ value
taken_off true size value map e = omega arith
taken_off false size value map e = omega arith

pub value_stood_for : (ri_type : Bool) (k n nn value : ℕ) (negative : Bool) (type : ℕ) (r : ℤ) → negative ≡ (not (eqb k 0) || leb n (2 * nn)) → type ≡ bool_byte ri_type
    → r ≡ cond (cond negative (eqb ((value + type) % 2) 1) (not (eqb ((value + type) % 2) 1))) (neg_ℤ (pos ((value + type + 1) / 2))) (pos ((value + type + 1) / 2))
    → 2 * unsigned_abs r - ri_value ri_type - map_of k (counts 0 n nn) r ≡ value
value_stood_for ri_type k n nn value negative type r p q s =
    let whole : 2 * unsigned_abs r ≡ value + type + marked negative r =
    subst (λ z. 2 * unsigned_abs z ≡ value + type + marked negative z) (sym s) (sized negative (value + type) ((value + type + 1) / 2) (eqb ((value + type) % 2) 1) refl refl) in
    let map : map_of k (counts 0 n nn) r ≡ marked negative r = map_is k n nn r ∙ sym (ap (λ l. marked l r) p) in
    taken_off ri_type (unsigned_abs r) value (map_of k (counts 0 n nn) r) (omega (arith, whole, map, q))

-- no other error has the value
only_one : (negative : Bool) (t : ℕ) (odd : Bool) (e : ℤ) → eqb (t % 2) 1 ≡ odd → 2 * unsigned_abs e ≡ t + marked negative e
    → e ≡ cond (cond negative odd (not odd)) (neg_ℤ (pos ((t + 1) / 2))) (pos ((t + 1) / 2))
unfolding marked
only_one true t true (pos n) p h = absurd (omega (arith, eqb-true (t % 2) 1 p, cond-false {A = ℕ} (ltb n 0) 1 0 (le-ltb n 0 (omega arith))))
only_one true t true (negsuc n) p h = let m : (t + 1) / 2 ≡ suc n = omega arith in rw m refl
only_one true t false (pos n) p h = let m : n ≡ (t + 1) / 2 = omega (arith, cond-false {A = ℕ} (ltb n 0) 1 0 (le-ltb n 0 (omega arith))) in ap pos m
only_one true t false (negsuc n) p h = absurd (omega (arith, eqb-false (t % 2) 1 p))
only_one false t true (pos zero) p h = absurd (omega (arith, eqb-true (t % 2) 1 p))
only_one false t true (pos (suc n)) p h = let m : suc n ≡ (t + 1) / 2 = omega (arith, cond-true {A = ℕ} (ltb 0 (suc n)) 1 0 (lt-ltb 0 (suc n) (omega arith))) in ap pos m
only_one false t true (negsuc n) p h = absurd (omega (arith, eqb-true (t % 2) 1 p))
only_one false t false (pos zero) p h = let m : (t + 1) / 2 ≡ zero = omega arith in rw m refl
only_one false t false (pos (suc n)) p h = absurd (omega (arith, eqb-false (t % 2) 1 p, cond-true {A = ℕ} (ltb 0 (suc n)) 1 0 (lt-ltb 0 (suc n) (omega arith))))
only_one false t false (negsuc n) p h = let m : (t + 1) / 2 ≡ suc n = omega arith in rw m refl

marked_few : (negative : Bool) (e : ℤ) → marked negative e ≤ 1
unfolding marked
marked_few negative e = grind (arith, common_steps)

none_marked : (negative : Bool) → marked negative (pos 0) ≡ 0
unfolding marked
none_marked true = refl
none_marked false = refl

put_back : (ri_type negative : Bool) (e : ℤ) (value type : ℕ) → type ≡ bool_byte ri_type → (IsTrue ri_type → e ≡ pos 0 → ⊥)
    → 2 * unsigned_abs e - ri_value ri_type - marked negative e ≡ value → 2 * unsigned_abs e ≡ value + type + marked negative e
put_back true negative (pos zero) value type p some h = absurd (some refl refl)
put_back false negative (pos zero) value type p some h = omega (arith, none_marked negative)
put_back true negative (pos (suc n)) value type p some h = omega (arith, marked_few negative (pos (suc n)))
put_back true negative (negsuc n) value type p some h = omega (arith, marked_few negative (negsuc n))
put_back false negative (pos (suc n)) value type p some h = omega (arith, marked_few negative (pos (suc n)))
put_back false negative (negsuc n) value type p some h = omega (arith, marked_few negative (negsuc n))

pub only_stood_for : (ri_type : Bool) (k n nn value : ℕ) (negative : Bool) (type : ℕ) (r e : ℤ) → negative ≡ (not (eqb k 0) || leb n (2 * nn)) → type ≡ bool_byte ri_type
    → r ≡ cond (cond negative (eqb ((value + type) % 2) 1) (not (eqb ((value + type) % 2) 1))) (neg_ℤ (pos ((value + type + 1) / 2))) (pos ((value + type + 1) / 2))
    → (IsTrue ri_type → e ≡ pos 0 → ⊥) → 2 * unsigned_abs e - ri_value ri_type - map_of k (counts 0 n nn) e ≡ value → e ≡ r
only_stood_for ri_type k n nn value negative type r e p q s some h =
    let map : map_of k (counts 0 n nn) e ≡ marked negative e = map_is k n nn e ∙ sym (ap (λ l. marked l e) p) in
    let whole : 2 * unsigned_abs e - ri_value ri_type - marked negative e ≡ value = ap (λ x. 2 * unsigned_abs e - ri_value ri_type - x) (sym map) ∙ h in
    only_one negative (value + type) (eqb ((value + type) % 2) 1) e refl (put_back ri_type negative e value type q some whole) ∙ sym s

-- no two errors have the same value
pub value_once : (ri_type : Bool) (k n nn : ℕ) (d e : ℤ) → (IsTrue ri_type → d ≡ pos 0 → ⊥) → (IsTrue ri_type → e ≡ pos 0 → ⊥)
    → 2 * unsigned_abs d - ri_value ri_type - map_of k (counts 0 n nn) d ≡ 2 * unsigned_abs e - ri_value ri_type - map_of k (counts 0 n nn) e → d ≡ e
value_once ri_type k n nn d e some_d some_e same =
    let value : ℕ = 2 * unsigned_abs e - ri_value ri_type - map_of k (counts 0 n nn) e in
    only_stood_for ri_type k n nn value _ _ _ d refl refl refl some_d same ∙ sym (only_stood_for ri_type k n nn value _ _ _ e refl refl refl some_e refl)

-- ---- one more error

-- what is added to A is at most the error's magnitude
added_small : (ri_type : Bool) (size value map type : ℕ) → value ≡ 2 * size - ri_value ri_type - map → type ≡ bool_byte ri_type → (value + 1 - type) / 2 ≤ size
added_small true size value map type p q = omega arith
added_small false size value map type p q = omega arith

type_is : (ri_type : Bool) → bool_byte ri_type ≡ ri_value ri_type
type_is true = refl
type_is false = refl

one_more : (test : Bool) (nn more : ℕ) → more ≡ bool_byte test → nn + more ≡ cond test (nn + 1) nn
one_more true nn more e = omega arith
one_more false nn more e = omega arith

counted_is : (test : Bool) (a n nn a1 n1 nn1 : ℕ) → a1 ≡ cond test (a / 2) a → n1 ≡ cond test (n / 2 + 1) (n + 1) → nn1 ≡ cond test (nn / 2) nn
    → counts a1 n1 nn1 ≡ cond test (counts (a / 2) (n / 2 + 1) (nn / 2)) (counts a (n + 1) nn)
counted_is true a n nn a1 n1 nn1 p q r = cc
counted_is false a n nn a1 n1 nn1 p q r = cc

pub counts_step_is : (ri_type : Bool) (reset a n nn value type more : ℕ) (e : ℤ) (a1 n1 nn1 : ℕ) → value ≡ interruption_value ri_type (counts a n nn) e → type ≡ bool_byte ri_type → more ≡ bool_byte (int_lt e (pos 0))
    → a1 ≡ cond (eqb n reset) ((a + (value + 1 - type) / 2) / 2) (a + (value + 1 - type) / 2)
    → n1 ≡ cond (eqb n reset) (n / 2 + 1) (n + 1)
    → nn1 ≡ cond (eqb n reset) ((nn + more) / 2) (nn + more)
    → counts a1 n1 nn1 ≡ counts_step ri_type reset (counts a n nn) e
unfolding counts_step
counts_step_is ri_type reset a n nn value type more e a1 n1 nn1 v t m p q r =
    let nn2 : ℕ = cond (int_lt e (pos 0)) (nn + 1) nn in
    let a2 : ℕ = a + (interruption_value ri_type (counts a n nn) e + 1 - ri_value ri_type) / 2 in
    let ea : a + (value + 1 - type) / 2 ≡ a2 = ap (λ x. a + (x + 1 - type) / 2) v ∙ ap (λ x. a + (interruption_value ri_type (counts a n nn) e + 1 - x) / 2) (t ∙ type_is ri_type) in
    let enn : nn + more ≡ nn2 = one_more (int_lt e (pos 0)) nn more m in
    counted_is (eqb n reset) a2 n nn2 a1 n1 nn1 (p ∙ ap (λ x. cond (eqb n reset) (x / 2) x) ea) q (r ∙ ap (λ x. cond (eqb n reset) (x / 2) x) enn)

fewer : (test negative : Bool) (n nn more : ℕ) → more ≡ bool_byte negative → nn < n → cond test ((nn + more) / 2) (nn + more) < cond test (n / 2 + 1) (n + 1)
fewer true true n nn more e h = omega arith
fewer true false n nn more e h = omega arith
fewer false true n nn more e h = omega arith
fewer false false n nn more e h = omega arith

pub sound_counts : (ri_type : Bool) (reset bound a n nn value type more : ℕ) (e : ℤ) (a1 n1 nn1 : ℕ) → 3 ≤ reset → AreSoundCounts reset bound (counts a n nn) → unsigned_abs e ≤ bound
    → value ≡ interruption_value ri_type (counts a n nn) e → type ≡ bool_byte ri_type → more ≡ bool_byte (int_lt e (pos 0))
    → a1 ≡ cond (eqb n reset) ((a + (value + 1 - type) / 2) / 2) (a + (value + 1 - type) / 2)
    → n1 ≡ cond (eqb n reset) (n / 2 + 1) (n + 1)
    → nn1 ≡ cond (eqb n reset) ((nn + more) / 2) (nn + more)
    → AreSoundCounts reset bound (counts a1 n1 nn1)
sound_counts ri_type reset bound a n nn value type more e a1 n1 nn1 least sound small v t m p q r =
    let added : (value + 1 - type) / 2 ≤ unsigned_abs e = added_small ri_type (unsigned_abs e) value _ type v t in
    let total : a + (value + 1 - type) / 2 ≤ n * bound + bound = omega (arith, sound.sum) in
    let counted = counted_sound reset bound n (a + (value + 1 - type) / 2) least sound.few total in
    record {
      some = omega (arith, counted.some);
      few = omega (arith, counted.few);
      sum = subst (λ x. x ≤ n1 * bound) (sym p) (subst (λ x. cond (eqb n reset) ((a + (value + 1 - type) / 2) / 2) (a + (value + 1 - type) / 2) ≤ x * bound) (sym q) counted.sum);
      negative = omega (arith, fewer (eqb n reset) (int_lt e (pos 0)) n nn more m sound.negative);
    }
