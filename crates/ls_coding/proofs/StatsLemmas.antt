-- The counters of a context, step by step.
use Rattle.std.proofs.Common.{◌≡◌, ℕ, ◌+◌, ◌*◌, ◌/◌, ◌^◌, ◌<◌, ◌≤◌, Bool, true, false, cond, eqb, ℤ, pos, negsuc, neg_ℤ, ◌+ℤ◌, ◌-ℤ◌, ◌≤ℤ◌, ◌<ℤ◌, refl, sym, ◌∙◌, ap, subst, arith}
use Rattle.std.specs.Prelude.{int_le, int_lt, unsigned_abs}
use Rattle.std.specs.Int.{int_max, int_min}
use Rattle.std.proofs.lemmas.Int.{ints, clamps, to_z_pos}
use Rattle.std.proofs.lemmas.Nat.{mul-le}
use Rattle.std.proofs.lemmas.Bool.{false≢true, cond-true, cond-false, eqb-true, eqb-false}
use lib.Signed.{mag}
use mir.Syntax.{w32}
use mir.Val.{to_z, of_z}
use Rattle.ls_coding.specs.Numbers.{halved}
use Rattle.ls_frame.specs.Parameters.{range_of}
use Rattle.ls_coding.specs.Errors.{IsReduced}
use Rattle.ls_coding.specs.Stats.{Stats, stats, error_bound, lowered, raised, bias_corrected, counted, added, stats_step, AreSound}
use Rattle.ls_coding.proofs.SignedLemmas.{through}

-- ---- as the code passes numbers

pub count_through : (n : ℕ) → n ≤ 65536 → to_z w32 n ≡ pos n
count_through n h = to_z_pos w32 n (omega arith)

mean_small : (b : ℤ) → neg_ℤ (pos 131072) ≤ℤ b → b ≤ℤ pos 131072 → mag b < 2147483648
mean_small (pos n) low high = omega (arith, ints)
mean_small (negsuc n) low high = omega (arith, ints)

pub mean_through : (b : ℤ) → neg_ℤ (pos 131072) ≤ℤ b → b ≤ℤ pos 131072 → to_z w32 (of_z w32 b) ≡ b
mean_through b low high = through b (mean_small b low high)

-- ---- B and C

lowered_b : ℤ → ℤ → ℤ
lowered_b b n = cond (int_le (b +ℤ n) (neg_ℤ n)) (pos 1 -ℤ n) (b +ℤ n)

raised_b : ℤ → ℤ → ℤ
raised_b b n = cond (int_lt (pos 0) (b -ℤ n)) (pos 0) (b -ℤ n)

pub bias_through : (c : ℤ) → neg_ℤ (pos 128) ≤ℤ c → c ≤ℤ pos 127 → to_z w32 (of_z w32 c) ≡ c
bias_through c low high =
    let lower : neg_ℤ (pos 131072) ≤ℤ c = omega (arith, ints) in
    let higher : c ≤ℤ pos 131072 = omega (arith, ints) in
    mean_through c lower higher

lowered_c : ℤ → ℤ
lowered_c c = cond (int_lt (neg_ℤ (pos 128)) c) (c -ℤ pos 1) c

-- ---- a complete step

under : {A B : Type 0} → (f : A → B) (test : Bool) (x y : A) → f (cond test x y) ≡ cond test (f x) (f y)
under f true x y = refl
under f false x y = refl

pub stats_is : (s : Stats) (a : ℕ) (b c : ℤ) (n : ℕ) → a ≡ s.a → b ≡ s.b → c ≡ s.c → n ≡ s.n → stats a b c n ≡ s
stats_is s a b c n p q r t =
    ap (λ x. stats x b c n) p ∙ ap (λ x. stats s.a x c n) q ∙ ap (λ x. stats s.a s.b x n) r ∙ ap (λ x. stats s.a s.b s.c x) t

-- correcting the bias depends on B, C and N alone, and leaves A and N unchanged
both_same : {A : Type 0} → (test : Bool) (x : A) → cond test x x ≡ x
both_same true x = refl
both_same false x = refl

same_a : (s : Stats) → (bias_corrected s).a ≡ s.a
same_a s =
    under (λ (t : Stats). t.a) (int_le s.b (neg_ℤ (pos s.n))) (lowered s) (cond (int_lt (pos 0) s.b) (raised s) s)
    ∙ ap (cond (int_le s.b (neg_ℤ (pos s.n))) s.a) (under (λ (t : Stats). t.a) (int_lt (pos 0) s.b) (raised s) s ∙ both_same (int_lt (pos 0) s.b) s.a)
    ∙ both_same (int_le s.b (neg_ℤ (pos s.n))) s.a

same_n : (s : Stats) → (bias_corrected s).n ≡ s.n
same_n s =
    under (λ (t : Stats). t.n) (int_le s.b (neg_ℤ (pos s.n))) (lowered s) (cond (int_lt (pos 0) s.b) (raised s) s)
    ∙ ap (cond (int_le s.b (neg_ℤ (pos s.n))) s.n) (under (λ (t : Stats). t.n) (int_lt (pos 0) s.b) (raised s) s ∙ both_same (int_lt (pos 0) s.b) s.n)
    ∙ both_same (int_le s.b (neg_ℤ (pos s.n))) s.n

part_b : (a : ℕ) (b c : ℤ) (n : ℕ) → (bias_corrected (stats a b c n)).b ≡ cond (int_le b (neg_ℤ (pos n))) (lowered (stats 0 b c n)).b (cond (int_lt (pos 0) b) (raised (stats 0 b c n)).b b)
part_b a b c n =
    under (λ (t : Stats). t.b) (int_le b (neg_ℤ (pos n))) (lowered (stats a b c n)) (cond (int_lt (pos 0) b) (raised (stats a b c n)) (stats a b c n))
    ∙ ap (cond (int_le b (neg_ℤ (pos n))) (lowered (stats a b c n)).b) (under (λ (t : Stats). t.b) (int_lt (pos 0) b) (raised (stats a b c n)) (stats a b c n))

part_c : (a : ℕ) (b c : ℤ) (n : ℕ) → (bias_corrected (stats a b c n)).c ≡ cond (int_le b (neg_ℤ (pos n))) (lowered (stats 0 b c n)).c (cond (int_lt (pos 0) b) (raised (stats 0 b c n)).c c)
part_c a b c n =
    under (λ (t : Stats). t.c) (int_le b (neg_ℤ (pos n))) (lowered (stats a b c n)) (cond (int_lt (pos 0) b) (raised (stats a b c n)) (stats a b c n))
    ∙ ap (cond (int_le b (neg_ℤ (pos n))) (lowered (stats a b c n)).c) (under (λ (t : Stats). t.c) (int_lt (pos 0) b) (raised (stats a b c n)) (stats a b c n))

-- the counters after `added` and `counted`, field by field
counted_a : (reset : ℕ) (s : Stats) → (counted reset s).a ≡ cond (eqb s.n reset) (s.a / 2) s.a
counted_a reset s = under (λ (t : Stats). t.a) (eqb s.n reset) (record { a = s.a / 2; b = halved s.b; c = s.c; n = s.n / 2 + 1 }) (record { a = s.a; b = s.b; c = s.c; n = s.n + 1 })

counted_b : (reset : ℕ) (s : Stats) → (counted reset s).b ≡ cond (eqb s.n reset) (halved s.b) s.b
counted_b reset s = under (λ (t : Stats). t.b) (eqb s.n reset) (record { a = s.a / 2; b = halved s.b; c = s.c; n = s.n / 2 + 1 }) (record { a = s.a; b = s.b; c = s.c; n = s.n + 1 })

counted_c : (reset : ℕ) (s : Stats) → (counted reset s).c ≡ s.c
counted_c reset s = under (λ (t : Stats). t.c) (eqb s.n reset) (record { a = s.a / 2; b = halved s.b; c = s.c; n = s.n / 2 + 1 }) (record { a = s.a; b = s.b; c = s.c; n = s.n + 1 })
    ∙ both_same (eqb s.n reset) s.c

counted_n : (reset : ℕ) (s : Stats) → (counted reset s).n ≡ cond (eqb s.n reset) (s.n / 2 + 1) (s.n + 1)
counted_n reset s = under (λ (t : Stats). t.n) (eqb s.n reset) (record { a = s.a / 2; b = halved s.b; c = s.c; n = s.n / 2 + 1 }) (record { a = s.a; b = s.b; c = s.c; n = s.n + 1 })

-- what the code computes, part by part, is a step
pub step_is : (reset a n size : ℕ) (b c e : ℤ) (a1 n1 : ℕ) (b1 sum b2 c2 : ℤ) → size ≡ unsigned_abs e → sum ≡ b +ℤ e
    → a1 ≡ cond (eqb n reset) ((a + size) / 2) (a + size)
    → b1 ≡ cond (eqb n reset) (halved sum) sum
    → n1 ≡ cond (eqb n reset) (n / 2 + 1) (n + 1)
    → b2 ≡ (bias_corrected (stats 0 b1 c n1)).b → c2 ≡ (bias_corrected (stats 0 b1 c n1)).c
    → stats a1 b2 c2 n1 ≡ stats_step reset (stats a b c n) e
unfolding stats_step
step_is reset a n size b c e a1 n1 b1 sum b2 c2 p q i j k l m =
    let s : Stats = counted reset (added (stats a b c n) e) in
    let ea : a1 ≡ s.a = i ∙ ap (λ x. cond (eqb n reset) ((a + x) / 2) (a + x)) p ∙ sym (counted_a reset (added (stats a b c n) e)) in
    let eb : b1 ≡ s.b = j ∙ ap (λ x. cond (eqb n reset) (halved x) x) q ∙ sym (counted_b reset (added (stats a b c n) e)) in
    let ec : c ≡ s.c = sym (counted_c reset (added (stats a b c n) e)) in
    let en : n1 ≡ s.n = k ∙ sym (counted_n reset (added (stats a b c n) e)) in
    let whole : stats a1 b1 c n1 ≡ s = stats_is s a1 b1 c n1 ea eb ec en in
    stats_is (bias_corrected (stats a1 b1 c n1)) a1 b2 c2 n1 (sym (same_a (stats a1 b1 c n1))) (l ∙ part_b 0 b1 c n1 ∙ sym (part_b a1 b1 c n1))
    (m ∙ part_c 0 b1 c n1 ∙ sym (part_c a1 b1 c n1)) (sym (same_n (stats a1 b1 c n1)))
    ∙ ap bias_corrected whole

-- ---- counters stay sound

pub choose : {A : Type 0} → (test : Bool) (x y : A) (P : A → Type 0) → (test ≡ true → P x) → (test ≡ false → P y) → P (cond test x y)
choose true x y P f g = f refl
choose false x y P f g = g refl

pub le_true : (x y : ℤ) → int_le x y ≡ true → x ≤ℤ y
le_true x y e = grind (arith, ints)

pub le_false : (x y : ℤ) → int_le x y ≡ false → y <ℤ x
le_false x y e = grind (arith, ints)

pub lt_true : (x y : ℤ) → int_lt x y ≡ true → x <ℤ y
lt_true x y e = grind (arith, ints)

pub lt_false : (x y : ℤ) → int_lt x y ≡ false → y ≤ℤ x
lt_false x y e = grind (arith, ints)

record IsMean (n : ℕ) (b : ℤ) : Type 0 where
  low : neg_ℤ (pos n) <ℤ b
  high : b ≤ℤ pos 0

mean_sound : (b c : ℤ) (n : ℕ) → 1 ≤ n → IsMean n (cond (int_le b (neg_ℤ (pos n))) (lowered (stats 0 b c n)).b (cond (int_lt (pos 0) b) (raised (stats 0 b c n)).b b))
mean_sound b c n some =
    choose (int_le b (neg_ℤ (pos n))) (lowered (stats 0 b c n)).b (cond (int_lt (pos 0) b) (raised (stats 0 b c n)).b b) (IsMean n)
    (λ e. choose (int_le (b +ℤ pos n) (neg_ℤ (pos n))) (pos 1 -ℤ pos n) (b +ℤ pos n) (IsMean n)
    (λ f. record { low = omega (arith, ints); high = omega (arith, ints) })
    (λ f. record { low = omega (arith, ints, le_false (b +ℤ pos n) (neg_ℤ (pos n)) f); high = omega (arith, ints, le_true b (neg_ℤ (pos n)) e) }))
    (λ e. choose (int_lt (pos 0) b) (raised (stats 0 b c n)).b b (IsMean n)
    (λ f. choose (int_lt (pos 0) (b -ℤ pos n)) (pos 0) (b -ℤ pos n) (IsMean n)
    (λ g. record { low = omega (arith, ints); high = omega (arith, ints) })
    (λ g. record { low = omega (arith, ints, lt_true (pos 0) b f); high = omega (arith, ints, lt_false (pos 0) (b -ℤ pos n) g) }))
    (λ f. record { low = omega (arith, ints, le_false b (neg_ℤ (pos n)) e); high = omega (arith, ints, lt_false (pos 0) b f) }))

-- wide bounds on B
sound_wide : (reset bound a n : ℕ) (b c : ℤ) → AreSound reset bound (stats a b c n) → reset ≤ 65535 → (neg_ℤ (pos 131072) ≤ℤ b) × (b ≤ℤ pos 131072)
sound_wide reset bound a n b c sound most = (omega (arith, ints, sound.mean_low, sound.few), omega (arith, ints, sound.mean_high))

pub error_size : (maxval : ℕ) (e : ℤ) → IsReduced (range_of maxval) e → unsigned_abs e ≤ error_bound maxval
error_size maxval (pos n) h = omega (arith, ints, h.high)
error_size maxval (negsuc n) h = omega (arith, ints, h.low)

pub error_low : (maxval : ℕ) (e : ℤ) → maxval ≤ 65535 → IsReduced (range_of maxval) e → neg_ℤ (pos 32768) ≤ℤ e
error_low maxval e most h = omega (arith, ints, h.low)

pub error_high : (maxval : ℕ) (e : ℤ) → maxval ≤ 65535 → IsReduced (range_of maxval) e → e ≤ℤ pos 32767
error_high maxval e most h = omega (arith, ints, h.high)

-- the sum that the code passes
pub error_through : (e : ℤ) → neg_ℤ (pos 32768) ≤ℤ e → e ≤ℤ pos 32767 → to_z w32 (of_z w32 e) ≡ e
error_through e low high =
    let lower : neg_ℤ (pos 131072) ≤ℤ e = omega (arith, ints) in
    let higher : e ≤ℤ pos 131072 = omega (arith, ints) in
    mean_through e lower higher

pub sum_through : (reset bound a n : ℕ) (b c e : ℤ) → AreSound reset bound (stats a b c n) → reset ≤ 65535 → neg_ℤ (pos 32768) ≤ℤ e → e ≤ℤ pos 32767
    → to_z w32 (of_z w32 (to_z w32 (of_z w32 b) +ℤ to_z w32 (of_z w32 e))) ≡ b +ℤ e
sum_through reset bound a n b c e sound most low high =
    let wide = sound_wide reset bound a n b c sound most in
    let lower : neg_ℤ (pos 131072) ≤ℤ (b +ℤ e) = omega (arith, ints, sound.mean_low, sound.few) in
    let higher : (b +ℤ e) ≤ℤ pos 131072 = omega (arith, ints, sound.mean_high) in
    ap (λ z. to_z w32 (of_z w32 (z +ℤ to_z w32 (of_z w32 e)))) (mean_through b wide.0 wide.1)
    ∙ ap (λ z. to_z w32 (of_z w32 (b +ℤ z))) (error_through e low high)
    ∙ mean_through (b +ℤ e) lower higher

-- N and A, after an error of magnitude at most `bound`
pub record AreCounted (reset bound n a : ℕ) : Type 0 where
  pub some : 1 ≤ n
  pub few : n ≤ reset
  pub sum : a ≤ n * bound

-- half of A keeps the bound for half of N and one more
half_sum : (n a bound : ℕ) → a ≤ n * bound + bound → a / 2 ≤ (n / 2 + 1) * bound
half_sum n a bound h =
    let twice : n + 1 ≤ 2 * (n / 2 + 1) = omega arith in
    let scaled : (n + 1) * bound ≤ 2 * (n / 2 + 1) * bound = mul-le (n + 1) bound (2 * (n / 2 + 1)) bound twice (omega arith) in
    omega arith

more_sum : (n a bound : ℕ) → a ≤ n * bound + bound → a ≤ (n + 1) * bound
more_sum n a bound h = omega arith

counted_by : (reset bound n a : ℕ) (test : Bool) → eqb n reset ≡ test → 3 ≤ reset → n ≤ reset → a ≤ n * bound + bound
    → AreCounted reset bound (cond test (n / 2 + 1) (n + 1)) (cond test (a / 2) a)
counted_by reset bound n a true e least few size =
    let same : n ≡ reset = eqb-true n reset e in
    record { some = omega arith; few = omega arith; sum = half_sum n a bound size }
counted_by reset bound n a false e least few size =
    let other : n ≡ reset → ⊥ = eqb-false n reset e in
    record { some = omega arith; few = omega arith; sum = more_sum n a bound size }

pub counted_sound : (reset bound n a : ℕ) → 3 ≤ reset → n ≤ reset → a ≤ n * bound + bound
    → AreCounted reset bound (cond (eqb n reset) (n / 2 + 1) (n + 1)) (cond (eqb n reset) (a / 2) a)
counted_sound reset bound n a least few size = counted_by reset bound n a (eqb n reset) refl least few size

-- N and A after an error was counted, as the code computes them
pub counted_is : (reset bound a n size a1 n1 : ℕ) (b c : ℤ) → 3 ≤ reset → AreSound reset bound (stats a b c n) → size ≤ bound
    → a1 ≡ cond (eqb n reset) ((a + size) / 2) (a + size) → n1 ≡ cond (eqb n reset) (n / 2 + 1) (n + 1) → AreCounted reset bound n1 a1
counted_is reset bound a n size a1 n1 b c least sound small e f =
    let total : a + size ≤ n * bound + bound = omega (arith, sound.sum) in
    subst (λ m. AreCounted reset bound m a1) (sym f) (subst (AreCounted reset bound (cond (eqb n reset) (n / 2 + 1) (n + 1))) (sym e) (counted_sound reset bound n (a + size) least sound.few total))

-- what computing the Golomb parameter requires
pub counted_few : (reset maxval n a : ℕ) → reset ≤ 65535 → maxval ≤ 65535 → AreCounted reset (error_bound maxval) n a → (a < 2 ^ 31) × (a ≤ n * 65535)
counted_few reset maxval n a most wide counted =
    let bound : error_bound maxval ≤ 32768 = omega arith in
    let product : n * error_bound maxval ≤ n * 32768 = mul-le n (error_bound maxval) n 32768 (omega arith) bound in
    (omega (arith, counted.sum, counted.few), omega (arith, counted.sum))

pub counted_by_code : (reset maxval a n size a1 n1 from : ℕ) (b c e : ℤ) → 3 ≤ reset → reset ≤ 65535 → maxval ≤ 65535
    → AreSound reset (error_bound maxval) (stats a b c n) → IsReduced (range_of maxval) e → size ≡ unsigned_abs (to_z w32 (of_z w32 e)) → from ≡ reset
    → a1 ≡ cond (eqb n from) ((a + size) / 2) (a + size) → n1 ≡ cond (eqb n from) (n / 2 + 1) (n + 1)
    → (0 < n1) × (a1 < 2 ^ 31) × (a1 ≤ n1 * 65535) × (n1 ≤ 65535)
counted_by_code reset maxval a n size a1 n1 from b c e least most wide sound error sized same f g =
    let size_is : size ≡ unsigned_abs e = sized ∙ ap unsigned_abs (error_through e (error_low maxval e wide error) (error_high maxval e wide error)) in
    let sizes = error_size maxval e error in
    let counted = counted_is reset (error_bound maxval) a n size a1 n1 b c least sound (omega arith)
    (f ∙ ap (λ r. cond (eqb n r) ((a + size) / 2) (a + size)) same) (g ∙ ap (λ r. cond (eqb n r) (n / 2 + 1) (n + 1)) same) in
    let few = counted_few reset maxval n1 a1 most wide counted in
    (omega (arith, counted.some), few.0, few.1, omega (arith, counted.few))

-- all bounds of sound counters
pub sound_is : (reset bound a n size a1 n1 : ℕ) (b c b1 b2 c2 : ℤ) → 3 ≤ reset → AreSound reset bound (stats a b c n) → size ≤ bound
    → a1 ≡ cond (eqb n reset) ((a + size) / 2) (a + size) → n1 ≡ cond (eqb n reset) (n / 2 + 1) (n + 1)
    → b2 ≡ (bias_corrected (stats 0 b1 c n1)).b → neg_ℤ (pos 128) ≤ℤ c2 → c2 ≤ℤ pos 127
    → AreSound reset bound (stats a1 b2 c2 n1)
sound_is reset bound a n size a1 n1 b c b1 b2 c2 least sound small i k l low high =
    let total : a + size ≤ n * bound + bound = omega (arith, sound.sum) in
    let counts = counted_sound reset bound n (a + size) least sound.few total in
    let some : 1 ≤ n1 = omega (arith, counts.some) in
    let mean : IsMean n1 b2 = subst (IsMean n1) (sym (l ∙ part_b 0 b1 c n1)) (mean_sound b1 c n1 some) in
    record {
      some = some;
      few = omega (arith, counts.few);
      sum = subst (λ x. x ≤ n1 * bound) (sym i) (subst (λ m. cond (eqb n reset) ((a + size) / 2) (a + size) ≤ m * bound) (sym k) counts.sum);
      mean_low = mean.low;
      mean_high = mean.high;
      bias_low = low;
      bias_high = high;
    }

-- ---- what the code may do with sound counters

pub mean_low : (reset bound : ℕ) (s : Stats) → AreSound reset bound s → reset ≤ 65535 → neg_ℤ (pos 131072) ≤ℤ to_z w32 (of_z w32 s.b)
mean_low reset bound s sound most =
    let low : neg_ℤ (pos 131072) ≤ℤ s.b = omega (arith, ints, sound.mean_low, sound.few) in
    let high : s.b ≤ℤ pos 131072 = omega (arith, ints, sound.mean_high) in
    subst (λ z. neg_ℤ (pos 131072) ≤ℤ z) (sym (mean_through s.b low high)) low

pub mean_high : (reset bound : ℕ) (s : Stats) → AreSound reset bound s → reset ≤ 65535 → to_z w32 (of_z w32 s.b) ≤ℤ pos 131072
mean_high reset bound s sound most =
    let low : neg_ℤ (pos 131072) ≤ℤ s.b = omega (arith, ints, sound.mean_low, sound.few) in
    let high : s.b ≤ℤ pos 131072 = omega (arith, ints, sound.mean_high) in
    subst (λ z. z ≤ℤ pos 131072) (sym (mean_through s.b low high)) high

pub mean_is : (reset bound : ℕ) (s : Stats) → AreSound reset bound s → reset ≤ 65535 → to_z w32 (of_z w32 s.b) ≡ s.b
mean_is reset bound s sound most =
    let low : neg_ℤ (pos 131072) ≤ℤ s.b = omega (arith, ints, sound.mean_low, sound.few) in
    let high : s.b ≤ℤ pos 131072 = omega (arith, ints, sound.mean_high) in
    mean_through s.b low high

-- ---- a mean error corrected by one comparison

nearer_of : ℤ → ℤ → ℤ
nearer_of b n = cond (int_lt b (pos 0)) (b +ℤ n) (b -ℤ n)

below_is : (b : ℤ) (n : ℕ) → 1 ≤ n → int_le b (neg_ℤ (pos n)) ≡ true → int_lt b (pos 0) ≡ true
below_is b n some t = let h = le_true b (neg_ℤ (pos n)) t in let less : b <ℤ pos 0 = omega (arith, ints) in grind (arith, ints)

above_is : (b : ℤ) → pos 0 <ℤ b → int_lt b (pos 0) ≡ false
above_is b h = grind (arith, ints)

corrected_to : ℤ → ℤ → ℤ → ℤ
corrected_to b n x = int_max (int_min x (pos 0)) (pos 1 -ℤ n)

lowered_to : (b : ℤ) (n : ℕ) → 1 ≤ n → b ≤ℤ neg_ℤ (pos n) → corrected_to b (pos n) (b +ℤ pos n) ≡ lowered_b b (pos n)
unfolding corrected_to lowered_b
lowered_to b n some h =
    choose (int_le (b +ℤ pos n) (neg_ℤ (pos n))) (pos 1 -ℤ pos n) (b +ℤ pos n) (λ v. corrected_to b (pos n) (b +ℤ pos n) ≡ v)
    (λ t. let u = le_true (b +ℤ pos n) (neg_ℤ (pos n)) t in omega (arith, ints, clamps))
    (λ t. let u = le_false (b +ℤ pos n) (neg_ℤ (pos n)) t in omega (arith, ints, clamps))

raised_to : (b : ℤ) (n : ℕ) → 1 ≤ n → pos 0 <ℤ b → corrected_to b (pos n) (b -ℤ pos n) ≡ raised_b b (pos n)
unfolding corrected_to raised_b
raised_to b n some h =
    choose (int_lt (pos 0) (b -ℤ pos n)) (pos 0) (b -ℤ pos n) (λ v. corrected_to b (pos n) (b -ℤ pos n) ≡ v)
    (λ t. let u = lt_true (pos 0) (b -ℤ pos n) t in omega (arith, ints, clamps))
    (λ t. let u = lt_false (pos 0) (b -ℤ pos n) t in omega (arith, ints, clamps))

mean_corrected : (b : ℤ) (n : ℕ) → 1 ≤ n → (int_le b (neg_ℤ (pos n)) ≡ false → pos 0 <ℤ b)
    → corrected_to b (pos n) (nearer_of b (pos n)) ≡ cond (int_le b (neg_ℤ (pos n))) (lowered_b b (pos n)) (cond (int_lt (pos 0) b) (raised_b b (pos n)) b)
unfolding nearer_of corrected_to lowered_b raised_b
mean_corrected b n some far =
    choose (int_le b (neg_ℤ (pos n))) (lowered_b b (pos n)) (cond (int_lt (pos 0) b) (raised_b b (pos n)) b) (λ v. corrected_to b (pos n) (nearer_of b (pos n)) ≡ v)
    (λ t. ap (corrected_to b (pos n)) (cond-true _ _ _ (below_is b n some t)) ∙ lowered_to b n some (le_true b (neg_ℤ (pos n)) t))
    (λ t. let over = far t in
    choose (int_lt (pos 0) b) (raised_b b (pos n)) b (λ v. corrected_to b (pos n) (nearer_of b (pos n)) ≡ v)
    (λ u. ap (corrected_to b (pos n)) (cond-false _ _ _ (above_is b over)) ∙ raised_to b n some over)
    (λ u. let not_over = lt_false (pos 0) b u in absurd (omega (arith, ints))))

-- as the code computes it
pub corrected_mean_is : (b n' near least small r : ℤ) (n : ℕ) → 1 ≤ n → n' ≡ pos n → (int_le b (neg_ℤ (pos n)) ≡ false → pos 0 <ℤ b)
    → near ≡ cond (int_lt b (pos 0)) (b +ℤ n') (b -ℤ n') → least ≡ pos 1 -ℤ n' → small ≡ int_min near (pos 0) → r ≡ int_max small least
    → r ≡ (bias_corrected (stats 0 b (pos 0) n)).b
unfolding nearer_of corrected_to lowered_b raised_b
corrected_mean_is b n' near least small r n some e far f g h i =
    i ∙ ap (λ z. int_max z least) h ∙ ap (λ z. int_max (int_min z (pos 0)) least) f ∙ ap (int_max (int_min (nearer_of b n') (pos 0))) g
    ∙ ap (λ z. corrected_to b z (nearer_of b z)) e ∙ mean_corrected b n some far ∙ sym (part_b 0 b (pos 0) n)

pub mean_part : (b c d : ℤ) (n : ℕ) → (bias_corrected (stats 0 b c n)).b ≡ (bias_corrected (stats 0 b d n)).b
mean_part b c d n = part_b 0 b c n ∙ sym (part_b 0 b d n)

raised_c : ℤ → ℤ
raised_c c = cond (int_lt c (pos 127)) (c +ℤ pos 1) c

pub corrected_bias_is : (b c : ℤ) (n : ℕ) → 1 ≤ n → (int_le b (neg_ℤ (pos n)) ≡ false → pos 0 <ℤ b)
    → cond (int_lt b (pos 0)) (cond (int_lt (neg_ℤ (pos 128)) c) (c -ℤ pos 1) c) (cond (int_lt c (pos 127)) (c +ℤ pos 1) c) ≡ (bias_corrected (stats 0 b c n)).c
unfolding lowered_c raised_c
corrected_bias_is b c n some far =
    choose (int_le b (neg_ℤ (pos n))) (lowered_c c) (cond (int_lt (pos 0) b) (raised_c c) c) (λ v. cond (int_lt b (pos 0)) (lowered_c c) (raised_c c) ≡ v)
    (λ t. cond-true _ _ _ (below_is b n some t))
    (λ t. let over = far t in
    choose (int_lt (pos 0) b) (raised_c c) c (λ v. cond (int_lt b (pos 0)) (lowered_c c) (raised_c c) ≡ v)
    (λ u. cond-false _ _ _ (above_is b over))
    (λ u. let not_over = lt_false (pos 0) b u in absurd (omega (arith, ints))))
    ∙ sym (part_c 0 b c n)

pub one_less_through : (n : ℕ) → n ≤ 65536 → to_z w32 (of_z w32 (pos 1 -ℤ to_z w32 n)) ≡ pos 1 -ℤ to_z w32 n
one_less_through n h =
    let same : to_z w32 n ≡ pos n = count_through n h in
    ap (λ z. to_z w32 (of_z w32 (pos 1 -ℤ z))) same ∙ mean_through (pos 1 -ℤ pos n) (omega (arith, ints)) (omega (arith, ints)) ∙ ap (λ z. pos 1 -ℤ z) (sym same)

-- a B that isn't above -N and at most 0 is above 0, if it isn't at most -N
over_by : (b : ℤ) (n : ℕ) (test over : Bool) → int_lt (pos 0) b ≡ over → ((pos 0 ≤ℤ (pos 0 -ℤ b)) × ((pos 0 -ℤ b) <ℤ pos n) → test ≡ true) → test ≡ false
    → int_le b (neg_ℤ (pos n)) ≡ false → pos 0 <ℤ b
over_by b n test true u f g t = lt_true (pos 0) b u
over_by b n test false u f g t =
    let low = lt_false (pos 0) b u in
    let high = le_false b (neg_ℤ (pos n)) t in
    absurd (false≢true (sym g ∙ f (omega (arith, ints), omega (arith, ints))))

pub over_zero : (b minus : ℤ) (n : ℕ) (test : Bool) → neg_ℤ (pos 131072) ≤ℤ b → b ≤ℤ pos 131072 → minus ≡ to_z w32 (of_z w32 (pos 0 -ℤ to_z w32 (of_z w32 b)))
    → ((pos 0 ≤ℤ minus) × (minus <ℤ pos n) → test ≡ true) → test ≡ false → int_le b (neg_ℤ (pos n)) ≡ false → pos 0 <ℤ b
over_zero b minus n test low high e f g t =
    let whole : minus ≡ pos 0 -ℤ b =
    e ∙ ap (λ z. to_z w32 (of_z w32 (pos 0 -ℤ z))) (mean_through b low high) ∙ mean_through (pos 0 -ℤ b) (omega (arith, ints)) (omega (arith, ints)) in
    over_by b n test (int_lt (pos 0) b) refl (λ h. f (subst (λ z. pos 0 ≤ℤ z) (sym whole) h.0, subst (λ z. z <ℤ pos n) (sym whole) h.1)) g t
