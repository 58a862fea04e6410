-- A change of one context's counters among all.
use Rattle.std.proofs.Common.{◌≡◌, ◌≢◌, ℕ, ◌+◌, ◌-◌, ◌*◌, ◌^◌, ◌<◌, ◌≤◌, Bool, true, false, eqb, ℤ, pos, List, length, map, get_or, refl, sym, ◌∙◌, ap, subst, arith, ◌⊎◌, inl, inr}
use Rattle.std.specs.Prelude.{unsigned_abs}
use Rattle.std.specs.List.{range_with_len}
use Rattle.std.proofs.Math.ListN.{set}
use Rattle.std.proofs.lemmas.Int.{ints}
use Rattle.std.proofs.lemmas.Nat.{mul-le}
use Rattle.std.proofs.lemmas.Bool.{eqb-true, eqb-false}
use Rattle.std.proofs.lemmas.List.{get_or-set_same, get_or-set_other, length-set, ext_get_or}
use Rattle.std.proofs.lemmas.List.FromFn.{get_or-map-range_with_len, length-map-range_with_len}
use Rattle.ls_frame.specs.Parameters.{Parameters, IsLegal}
use Rattle.ls_coding.specs.Stats.{Stats, stats, error_bound, AreSound, first_a, first_stats}
use Rattle.ls_coding.specs.Interruptions.{Counts, counts, first_counts, ri_value, map_of, interruption_k, interruption_value, AreSoundCounts}
use Rattle.ls_coding.specs.View.Fields.{stats_at, contexts_of, counts_at, AreAllSound, AreParameters}
use Rattle.ls_coding.specs.Numbers.{golomb_parameter}

same_or_by : (i j : ℕ) (test : Bool) → eqb i j ≡ test → (i ≡ j) ⊎ (i ≢ j)
same_or_by i j true e = inl (eqb-true i j e)
same_or_by i j false e = inr (eqb-false i j e)

pub same_or_not : (i j : ℕ) → (i ≡ j) ⊎ (i ≢ j)
same_or_not i j = same_or_by i j (eqb i j) refl

-- a list given place by place, changed at one
pub map_set : {A : Type 0} → (f g : ℕ → A) (count i : ℕ) (x : A) → i < count → g i ≡ x → ((j : ℕ) → j < count → j ≢ i → g j ≡ f j)
    → map g (range_with_len 0 count) ≡ set (map f (range_with_len 0 count)) i x
map_set f g count i x within here others =
    let whole : length (map f (range_with_len 0 count)) ≡ count = length-map-range_with_len f 0 count in
    let inside : i < length (map f (range_with_len 0 count)) = omega arith in
    ext_get_or x (map g (range_with_len 0 count)) (set (map f (range_with_len 0 count)) i x)
    (length-map-range_with_len g 0 count ∙ sym (length-set (map f (range_with_len 0 count)) i x ∙ whole))
    (λ j h.
    let low : j < count = omega (arith, length-map-range_with_len g 0 count) in
    get_or-map-range_with_len g 0 count j j x low (omega arith)
    ∙ elim (same_or_not j i) [
      | inl same ↦ ap g same ∙ here ∙ sym (ap (λ k. get_or (set (map f (range_with_len 0 count)) i x) k x) same ∙ get_or-set_same (map f (range_with_len 0 count)) i x x inside)
      | inr other ↦ others j low other ∙ sym (get_or-set_other (map f (range_with_len 0 count)) i j x x other ∙ get_or-map-range_with_len f 0 count j j x low (omega arith))
    ])

pub map_alike : {A : Type 0} → (f g : ℕ → A) (count : ℕ) (x : A) → ((j : ℕ) → j < count → g j ≡ f j) → map g (range_with_len 0 count) ≡ map f (range_with_len 0 count)
map_alike f g count x same =
    ext_get_or x (map g (range_with_len 0 count)) (map f (range_with_len 0 count))
    (length-map-range_with_len g 0 count ∙ sym (length-map-range_with_len f 0 count))
    (λ j h.
    let low : j < count = omega (arith, length-map-range_with_len g 0 count) in
    get_or-map-range_with_len g 0 count j j x low (omega arith) ∙ same j low ∙ sym (get_or-map-range_with_len f 0 count j j x low (omega arith)))

pub record AreWhole (a : List ℕ) (b c : List ℤ) (n : List ℕ) : Type 0 where
  pub all_a : length a ≡ 367
  pub all_b : length b ≡ 365
  pub all_c : length c ≡ 365
  pub all_n : length n ≡ 367

at_same : (a n : List ℕ) (b c : List ℤ) (i x w : ℕ) (y z : ℤ) → AreWhole a b c n → i < 365
    → stats_at (set a i x) (set b i y) (set c i z) (set n i w) i ≡ stats x y z w
at_same a n b c i x w y z whole h =
    let in_a : i < length a = omega (arith, whole.all_a) in
    let in_b : i < length b = omega (arith, whole.all_b) in
    let in_c : i < length c = omega (arith, whole.all_c) in
    let in_n : i < length n = omega (arith, whole.all_n) in
    ap (λ v. stats v (get_or (set b i y) i (pos 0)) (get_or (set c i z) i (pos 0)) (get_or (set n i w) i 0)) (get_or-set_same a i x 0 in_a)
    ∙ ap (λ v. stats x v (get_or (set c i z) i (pos 0)) (get_or (set n i w) i 0)) (get_or-set_same b i y (pos 0) in_b)
    ∙ ap (λ v. stats x y v (get_or (set n i w) i 0)) (get_or-set_same c i z (pos 0) in_c)
    ∙ ap (λ v. stats x y z v) (get_or-set_same n i w 0 in_n)

at_other : (a n : List ℕ) (b c : List ℤ) (i x w : ℕ) (y z : ℤ) (j : ℕ) → j ≢ i
    → stats_at (set a i x) (set b i y) (set c i z) (set n i w) j ≡ stats_at a b c n j
at_other a n b c i x w y z j h =
    ap (λ v. stats v (get_or (set b i y) j (pos 0)) (get_or (set c i z) j (pos 0)) (get_or (set n i w) j 0)) (get_or-set_other a i j x 0 h)
    ∙ ap (λ v. stats (get_or a j 0) v (get_or (set c i z) j (pos 0)) (get_or (set n i w) j 0)) (get_or-set_other b i j y (pos 0) h)
    ∙ ap (λ v. stats (get_or a j 0) (get_or b j (pos 0)) v (get_or (set n i w) j 0)) (get_or-set_other c i j z (pos 0) h)
    ∙ ap (λ v. stats (get_or a j 0) (get_or b j (pos 0)) (get_or c j (pos 0)) v) (get_or-set_other n i j w 0 h)

pub contexts_set : (a n : List ℕ) (b c : List ℤ) (i x w : ℕ) (y z : ℤ) (t : Stats) → AreWhole a b c n → i < 365 → stats x y z w ≡ t
    → contexts_of (set a i x) (set b i y) (set c i z) (set n i w) ≡ set (contexts_of a b c n) i t
unfolding contexts_of
contexts_set a n b c i x w y z t whole h e =
    map_set (stats_at a b c n) (stats_at (set a i x) (set b i y) (set c i z) (set n i w)) 365 i t h (at_same a n b c i x w y z whole h ∙ e)
    (λ j low other. at_other a n b c i x w y z j other)

pub regular_sound : (reset bound : ℕ) (a n : List ℕ) (b c : List ℤ) (nn : List ℕ) (i x w : ℕ) (y z : ℤ) → AreWhole a b c n → i < 365
    → AreAllSound reset bound a b c n nn → AreSound reset bound (stats x y z w)
    → AreAllSound reset bound (set a i x) (set b i y) (set c i z) (set n i w) nn
regular_sound reset bound a n b c nn i x w y z whole h sound here =
    let far_0 : 365 ≢ i = omega arith in
    let far_1 : 366 ≢ i = omega arith in
    record {
      regular = λ j low. elim (same_or_not j i) [
        | inl same ↦ subst (λ k. AreSound reset bound (stats_at (set a i x) (set b i y) (set c i z) (set n i w) k)) (sym same) (subst (AreSound reset bound) (sym (at_same a n b c i x w y z whole h)) here)
        | inr other ↦ subst (AreSound reset bound) (sym (at_other a n b c i x w y z j other)) (sound.regular j low)
      ];
      ri_type_0 = rw (get_or-set_other a i 365 x 0 far_0, get_or-set_other n i 365 w 0 far_0) sound.ri_type_0;
      ri_type_1 = rw (get_or-set_other a i 366 x 0 far_1, get_or-set_other n i 366 w 0 far_1) sound.ri_type_1;
    }

-- ---- at a scan's start

-- every place of a list has the same value
abbrev pub AllAre : {A : Type 0} → List A → ℕ → A → A → Type 0
AllAre xs count d x = (i : ℕ) → i < count → get_or xs i d ≡ x

pub first_at : (a n : List ℕ) (b c : List ℤ) (p : Parameters) → AllAre a 367 0 (first_a p) → AllAre b 365 (pos 0) (pos 0) → AllAre c 365 (pos 0) (pos 0) → AllAre n 367 0 1
    → (number : ℕ) → number < 365 → stats_at a b c n number ≡ first_stats p
first_at a n b c p all_a all_b all_c all_n number h =
    ap (λ v. stats v (get_or b number (pos 0)) (get_or c number (pos 0)) (get_or n number 0)) (all_a number (omega arith))
    ∙ ap (λ v. stats (first_a p) v (get_or c number (pos 0)) (get_or n number 0)) (all_b number h)
    ∙ ap (λ v. stats (first_a p) (pos 0) v (get_or n number 0)) (all_c number h)
    ∙ ap (λ v. stats (first_a p) (pos 0) (pos 0) v) (all_n number (omega arith))

pub first_counts_at : (a n nn : List ℕ) (p : Parameters) (which : ℕ) → AllAre a 367 0 (first_a p) → AllAre n 367 0 1 → AllAre nn 2 0 0
    → which < 2 → counts_at a n nn which ≡ first_counts p
first_counts_at a n nn p which all_a all_n all_nn h =
    ap (λ v. counts v (get_or n (365 + which) 0) (get_or nn which 0)) (all_a (365 + which) (omega arith))
    ∙ ap (λ v. counts (first_a p) v (get_or nn which 0)) (all_n (365 + which) (omega arith))
    ∙ ap (λ v. counts (first_a p) 1 v) (all_nn which h)

first_small : (p : Parameters) → IsLegal p → first_a p ≤ 1 * error_bound p.maxval
first_small p legal = omega (arith, legal.some_maxval)

pub first_stats_sound : (p : Parameters) → IsLegal p → AreSound p.reset (error_bound p.maxval) (first_stats p)
first_stats_sound p legal = record {
  some = omega arith;
  few = omega (arith, legal.some_reset);
  sum = first_small p legal;
  mean_low = omega (arith, ints);
  mean_high = omega (arith, ints);
  bias_low = omega (arith, ints);
  bias_high = omega (arith, ints);
}

pub first_counts_sound : (p : Parameters) → IsLegal p → AreSoundCounts p.reset (error_bound p.maxval) (first_counts p)
first_counts_sound p legal = record { some = omega arith; few = omega (arith, legal.some_reset); sum = first_small p legal; negative = omega arith }

pub first_sound : (a n nn : List ℕ) (b c : List ℤ) (p : Parameters) → IsLegal p → AllAre a 367 0 (first_a p) → AllAre b 365 (pos 0) (pos 0) → AllAre c 365 (pos 0) (pos 0) → AllAre n 367 0 1 → AllAre nn 2 0 0
    → AreAllSound p.reset (error_bound p.maxval) a b c n nn
first_sound a n nn b c p legal all_a all_b all_c all_n all_nn = record {
  regular = λ number h. subst (AreSound p.reset (error_bound p.maxval)) (sym (first_at a n b c p all_a all_b all_c all_n number h)) (first_stats_sound p legal);
  ri_type_0 = subst (AreSoundCounts p.reset (error_bound p.maxval)) (sym (first_counts_at a n nn p 0 all_a all_n all_nn (omega arith))) (first_counts_sound p legal);
  ri_type_1 = subst (AreSoundCounts p.reset (error_bound p.maxval)) (sym (first_counts_at a n nn p 1 all_a all_n all_nn (omega arith))) (first_counts_sound p legal);
}

-- ---- the counters of samples that interrupt a run

pub record AreWholeCounts (a n nn : List ℕ) : Type 0 where
  pub every_a : length a ≡ 367
  pub every_n : length n ≡ 367
  pub every_nn : length nn ≡ 2

pub counts_own : (a n nn : List ℕ) (which x y z : ℕ) → AreWholeCounts a n nn → which < 2
    → counts_at (set a (365 + which) x) (set n (365 + which) y) (set nn which z) which ≡ counts x y z
counts_own a n nn which x y z whole h =
    let in_a : 365 + which < length a = omega (arith, whole.every_a) in
    let in_n : 365 + which < length n = omega (arith, whole.every_n) in
    let in_nn : which < length nn = omega (arith, whole.every_nn) in
    ap (λ v. counts v (get_or (set n (365 + which) y) (365 + which) 0) (get_or (set nn which z) which 0)) (get_or-set_same a (365 + which) x 0 in_a)
    ∙ ap (λ v. counts x v (get_or (set nn which z) which 0)) (get_or-set_same n (365 + which) y 0 in_n)
    ∙ ap (λ v. counts x y v) (get_or-set_same nn which z 0 in_nn)

pub counts_other : (a n nn : List ℕ) (which other x y z : ℕ) → other ≢ which
    → counts_at (set a (365 + which) x) (set n (365 + which) y) (set nn which z) other ≡ counts_at a n nn other
counts_other a n nn which other x y z h =
    let apart : 365 + other ≢ 365 + which = λ e. h (omega arith) in
    ap (λ v. counts v (get_or (set n (365 + which) y) (365 + other) 0) (get_or (set nn which z) other 0)) (get_or-set_other a (365 + which) (365 + other) x 0 apart)
    ∙ ap (λ v. counts (get_or a (365 + other) 0) v (get_or (set nn which z) other 0)) (get_or-set_other n (365 + which) (365 + other) y 0 apart)
    ∙ ap (λ v. counts (get_or a (365 + other) 0) (get_or n (365 + other) 0) v) (get_or-set_other nn which other z 0 h)

regular_kept : (a n : List ℕ) (b c : List ℤ) (which x y : ℕ) (number : ℕ) → number < 365
    → stats_at (set a (365 + which) x) b c (set n (365 + which) y) number ≡ stats_at a b c n number
regular_kept a n b c which x y number h =
    let apart : number ≢ 365 + which = omega arith in
    ap (λ v. stats v (get_or b number (pos 0)) (get_or c number (pos 0)) (get_or (set n (365 + which) y) number 0)) (get_or-set_other a (365 + which) number x 0 apart)
    ∙ ap (λ v. stats (get_or a number 0) (get_or b number (pos 0)) (get_or c number (pos 0)) v) (get_or-set_other n (365 + which) number y 0 apart)

pub contexts_kept : (a n : List ℕ) (b c : List ℤ) (which x y : ℕ) → contexts_of (set a (365 + which) x) b c (set n (365 + which) y) ≡ contexts_of a b c n
unfolding contexts_of
contexts_kept a n b c which x y =
    map_alike (stats_at a b c n) (stats_at (set a (365 + which) x) b c (set n (365 + which) y)) 365 (stats 0 (pos 0) (pos 0) 0) (regular_kept a n b c which x y)

pub interruption_sound : (ri_type : Bool) (reset bound : ℕ) (a n : List ℕ) (b c : List ℤ) (nn : List ℕ) (x y z : ℕ) → AreWholeCounts a n nn
    → AreAllSound reset bound a b c n nn → AreSoundCounts reset bound (counts x y z)
    → AreAllSound reset bound (set a (365 + ri_value ri_type) x) b c (set n (365 + ri_value ri_type) y) (set nn (ri_value ri_type) z)
interruption_sound true reset bound a n b c nn x y z whole sound here = record {
  regular = λ number h. subst (AreSound reset bound) (sym (regular_kept a n b c 1 x y number h)) (sound.regular number h);
  ri_type_0 = subst (AreSoundCounts reset bound) (sym (counts_other a n nn 1 0 x y z (omega arith))) sound.ri_type_0;
  ri_type_1 = subst (AreSoundCounts reset bound) (sym (counts_own a n nn 1 x y z whole (omega arith))) here;
}
interruption_sound false reset bound a n b c nn x y z whole sound here = record {
  regular = λ number h. subst (AreSound reset bound) (sym (regular_kept a n b c 0 x y number h)) (sound.regular number h);
  ri_type_0 = subst (AreSoundCounts reset bound) (sym (counts_own a n nn 0 x y z whole (omega arith))) here;
  ri_type_1 = subst (AreSoundCounts reset bound) (sym (counts_other a n nn 0 1 x y z (omega arith))) sound.ri_type_1;
}

pub counts_sound_at : (ri_type : Bool) (reset bound : ℕ) (a n : List ℕ) (b c : List ℤ) (nn : List ℕ) → AreAllSound reset bound a b c n nn
    → AreSoundCounts reset bound (counts_at a n nn (ri_value ri_type))
counts_sound_at true reset bound a n b c nn sound = sound.ri_type_1
counts_sound_at false reset bound a n b c nn sound = sound.ri_type_0

-- A, if N is at most 65535
pub counts_sum : (reset maxval : ℕ) (s : Counts) → AreSoundCounts reset (error_bound maxval) s → maxval ≤ 65535 → s.a ≤ s.n * 32768
counts_sum reset maxval s sound wide =
    let bound : error_bound maxval ≤ 32768 = omega arith in
    let product : s.n * error_bound maxval ≤ s.n * 32768 = mul-le s.n (error_bound maxval) s.n 32768 (omega arith) bound in
    omega (arith, sound.sum)

-- a value as the code has it, and as it is defined
value_at : (a n nn : List ℕ) (which k : ℕ) (ri_type : Bool) (e : ℤ) → ℕ
value_at a n nn which k ri_type e = 2 * unsigned_abs e - ri_value ri_type - map_of k (counts 0 (get_or n (365 + which) 0) (get_or nn which 0)) e

pub value_is : (a n nn : List ℕ) (ri_type code_ri_type : Bool) (which k : ℕ) (e : ℤ) → code_ri_type ≡ ri_type → which ≡ ri_value code_ri_type
    → k ≡ interruption_k ri_type (counts_at a n nn (ri_value ri_type))
    → 2 * unsigned_abs e - ri_value code_ri_type - map_of k (counts 0 (get_or n (365 + which) 0) (get_or nn which 0)) e
    ≡ interruption_value ri_type (counts_at a n nn (ri_value ri_type)) e
unfolding value_at
value_is a n nn ri_type code_ri_type which k e same place known =
    ap (λ w. value_at a n nn w k code_ri_type e) (place ∙ ap ri_value same)
    ∙ ap (λ f. value_at a n nn (ri_value ri_type) k f e) same
    ∙ ap (λ m. value_at a n nn (ri_value ri_type) m ri_type e) known

-- ---- the Golomb parameters beside the counters

pub parameters_first : (k n a : List ℕ) (p : Parameters) (first : ℕ) → AllAre k 365 0 first → AllAre n 367 0 1 → AllAre a 367 0 (first_a p) → first ≡ golomb_parameter 1 (first_a p)
    → AreParameters k n a
parameters_first k n a p first all_k all_n all_a e number h =
    all_k number h ∙ e ∙ sym (ap (λ v. golomb_parameter v (get_or a number 0)) (all_n number (omega arith)) ∙ ap (golomb_parameter 1) (all_a number (omega arith)))

pub parameters_set : (k n a : List ℕ) (i x w y : ℕ) → length k ≡ 365 → length n ≡ 367 → length a ≡ 367 → i < 365 → y ≡ golomb_parameter w x → AreParameters k n a
    → AreParameters (set k i y) (set n i w) (set a i x)
parameters_set k n a i x w y whole_k whole_n whole_a h e kept j low =
    let in_k : i < length k = omega arith in
    let in_n : i < length n = omega arith in
    let in_a : i < length a = omega arith in
    elim (same_or_not j i) [
      | inl same ↦
          subst (λ m. get_or (set k i y) m 0 ≡ golomb_parameter (get_or (set n i w) m 0) (get_or (set a i x) m 0)) (sym same)
          (get_or-set_same k i y 0 in_k ∙ e
          ∙ sym (ap (λ v. golomb_parameter v (get_or (set a i x) i 0)) (get_or-set_same n i w 0 in_n) ∙ ap (golomb_parameter w) (get_or-set_same a i x 0 in_a)))
      | inr other ↦
          get_or-set_other k i j y 0 other ∙ kept j low
          ∙ sym (ap (λ v. golomb_parameter v (get_or (set a i x) j 0)) (get_or-set_other n i j w 0 other) ∙ ap (golomb_parameter (get_or n j 0)) (get_or-set_other a i j x 0 other))
    ]

pub parameters_kept : (k n a : List ℕ) (which x y : ℕ) → AreParameters k n a → AreParameters k (set n (365 + which) y) (set a (365 + which) x)
parameters_kept k n a which x y kept number h =
    let apart : number ≢ 365 + which = omega arith in
    kept number h
    ∙ sym (ap (λ v. golomb_parameter v (get_or (set a (365 + which) x) number 0)) (get_or-set_other n (365 + which) number y 0 apart)
    ∙ ap (golomb_parameter (get_or n number 0)) (get_or-set_other a (365 + which) number x 0 apart))

-- ---- bounds on A for computing the parameter

pub first_few : (p : Parameters) → IsLegal p → (first_a p < 2 ^ 31) × (first_a p ≤ 1 * 65535)
first_few p legal = (omega (arith, legal.maxval), omega (arith, legal.maxval))
