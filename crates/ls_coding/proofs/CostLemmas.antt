-- What lawful events cost: their counters are sound, and so their words are short.
use Rattle.std.proofs.Common.{◌≡◌, ℕ, ◌+◌, ◌-◌, ◌*◌, ◌/◌, ◌<◌, ◌≤◌, Bool, true, false, cond, eqb, List, [], ◌∷◌, ◌++◌, length, length-append, ℤ, pos, negsuc, neg_ℤ, ◌+ℤ◌, ◌-ℤ◌, ◌≤ℤ◌, refl, sym, subst, arith, inl, inr}
use Rattle.std.specs.Prelude.{int_le, int_lt, unsigned_abs}
use Rattle.std.proofs.lemmas.Int.{ints}
use mir.Val.{bool_byte}
use Rattle.ls_frame.specs.Parameters.{Parameters, IsLegal, range_of, qbpp_of, limit_of}
use Rattle.ls_bits.proofs.GolombLemmas.{length-code_word}
use Rattle.ls_coding.specs.declared.neighbours.Neighbours.{Neighbours}
use Rattle.ls_coding.specs.Samples.{AreSamples, Interrupts}
use Rattle.ls_coding.specs.Numbers.{halved, clamped}
use Rattle.ls_coding.specs.Contexts.{context_of, signed}
use Rattle.ls_coding.specs.Errors.{IsReduced, error_of, predicted, median}
use Rattle.ls_coding.specs.Stats.{Stats, stats, error_bound, AreSound, lowered, raised, bias_corrected, stats_step}
use Rattle.ls_coding.specs.Interruptions.{Counts, AreSoundCounts, counts_step, ri_type_of, interruption_negative, interruption_prediction, interruption_error, interruption_value}
use Rattle.ls_coding.specs.Runs.{order, run_of, run_bits, index_at}
use Rattle.ls_coding.specs.Events.{Event, regular, interruption, stats_after_events, counts_after_events, run_index_after_events, regular_error_of, regular_word, interruption_word, golomb_bits}
use Rattle.ls_coding.specs.Lawful.{MayComeNext, by_sample, by_run, by_interruption, IsLawful, none, more}
use Rattle.ls_coding.proofs.ErrorLemmas.{error_of-reduced, interruption_prediction_small}
use Rattle.ls_coding.proofs.EventLemmas.{stats_after_events-own, stats_after_events-other, stats_after_events-interruption, counts_after_events-own, counts_after_events-regular, ri_type_1_kept, ri_type_0_kept}
use Rattle.ls_coding.proofs.FieldLemmas.{same_or_not, first_stats_sound, first_counts_sound}
use Rattle.ls_coding.proofs.InterruptionLemmas.{sound_counts, counts_step_is}
use Rattle.ls_coding.proofs.RunLemmas.{full_cost, interrupted_cost}
use Rattle.ls_coding.proofs.StateLemmas.{stats_after_events-run, counts_after_events-run}
use Rattle.ls_coding.proofs.StatsLemmas.{choose, lt_true, lt_false, error_size, sound_is, step_is}
use Rattle.ls_coding.proofs.WordLemmas.{regular_code, interruption_code, limit_large}

-- ---- errors are reduced

record IsWithin (high : ℕ) (z : ℤ) : Type 0 where
  from_zero : pos 0 ≤ℤ z
  within : z ≤ℤ pos high

clamped_within : (high : ℕ) (z : ℤ) → IsWithin high (clamped (pos 0) (pos high) z)
clamped_within high z =
    choose (int_lt z (pos 0)) (pos 0) (cond (int_lt (pos high) z) (pos high) z) (IsWithin high)
    (λ e. record { from_zero = omega (arith, ints); within = omega (arith, ints) })
    (λ e. choose (int_lt (pos high) z) (pos high) z (IsWithin high)
    (λ f. record { from_zero = omega (arith, ints); within = omega (arith, ints) })
    (λ f. record { from_zero = lt_false z (pos 0) e; within = lt_false (pos high) z f }))

reduced_by : (p : Parameters) (negative : Bool) (prediction : ℤ) (sample : ℕ) → IsWithin p.maxval prediction → sample ≤ p.maxval
    → IsReduced (range_of p.maxval) (error_of p negative prediction sample)
reduced_by p negative (pos px) sample h k = let small : px ≤ p.maxval = omega (arith, ints, h.within) in error_of-reduced p px sample negative small k
reduced_by p negative (negsuc n) sample h k = absurd (omega (arith, ints, h.from_zero))

pub regular_error_of-reduced : (p : Parameters) (n : Neighbours) (s : Stats) (sample : ℕ) → sample ≤ p.maxval
    → IsReduced (range_of p.maxval) (regular_error_of p (context_of p n) s n sample)
regular_error_of-reduced p n s sample h =
    let negative : Bool = (context_of p n).negative in
    reduced_by p negative (predicted p negative s.c n) sample (clamped_within p.maxval (pos (median n) +ℤ signed negative s.c)) h

pub interruption_error-reduced : (p : Parameters) (n : Neighbours) (sample : ℕ) → AreSamples p.maxval n → sample ≤ p.maxval
    → IsReduced (range_of p.maxval) (interruption_error p n sample)
interruption_error-reduced p n sample samples h = error_of-reduced p (interruption_prediction n) sample (interruption_negative n) (interruption_prediction_small p.maxval n samples) h

-- a prediction is a sample
prediction_is : (maxval : ℕ) (z : ℤ) → IsWithin maxval z → (px : ℕ) × (px ≤ maxval) × (z ≡ pos px)
prediction_is maxval (pos px) h = (px, omega (arith, ints, h.within), refl)
prediction_is maxval (negsuc n) h = absurd (omega (arith, ints, h.from_zero))

pub prediction_of : (p : Parameters) (negative : Bool) (c : ℤ) (n : Neighbours) → (px : ℕ) × (px ≤ p.maxval) × (predicted p negative c n ≡ pos px)
prediction_of p negative c n = prediction_is p.maxval (predicted p negative c n) (clamped_within p.maxval (pos (median n) +ℤ signed negative c))

-- ---- one more error keeps counters sound

record IsBias (c : ℤ) : Type 0 where
  low : neg_ℤ (pos 128) ≤ℤ c
  high : c ≤ℤ pos 127

lowered_bias : (b c : ℤ) (n : ℕ) → IsBias c → IsBias (lowered (stats 0 b c n)).c
lowered_bias b c n h =
    choose (int_lt (neg_ℤ (pos 128)) c) (c -ℤ pos 1) c IsBias
    (λ e. record { low = omega (arith, ints, lt_true (neg_ℤ (pos 128)) c e); high = omega (arith, ints, h.high) }) (λ e. h)

raised_bias : (b c : ℤ) (n : ℕ) → IsBias c → IsBias (raised (stats 0 b c n)).c
raised_bias b c n h =
    choose (int_lt c (pos 127)) (c +ℤ pos 1) c IsBias
    (λ e. record { low = omega (arith, ints, h.low); high = omega (arith, ints, lt_true c (pos 127) e) }) (λ e. h)

balanced_bias : (b c : ℤ) (n : ℕ) → IsBias c → IsBias (bias_corrected (stats 0 b c n)).c
balanced_bias b c n h =
    choose (int_le b (neg_ℤ (pos n))) (lowered (stats 0 b c n)) (cond (int_lt (pos 0) b) (raised (stats 0 b c n)) (stats 0 b c n)) (λ (t : Stats). IsBias t.c)
    (λ e. lowered_bias b c n h)
    (λ e. choose (int_lt (pos 0) b) (raised (stats 0 b c n)) (stats 0 b c n) (λ (t : Stats). IsBias t.c) (λ f. raised_bias b c n h) (λ f. h))

pub stats_step_sound : (reset maxval : ℕ) (s : Stats) (e : ℤ) → 3 ≤ reset → AreSound reset (error_bound maxval) s → IsReduced (range_of maxval) e
    → AreSound reset (error_bound maxval) (stats_step reset s e)
stats_step_sound reset maxval s e least sound error =
    let a1 : ℕ = cond (eqb s.n reset) ((s.a + unsigned_abs e) / 2) (s.a + unsigned_abs e) in
    let n1 : ℕ = cond (eqb s.n reset) (s.n / 2 + 1) (s.n + 1) in
    let b1 : ℤ = cond (eqb s.n reset) (halved (s.b +ℤ e)) (s.b +ℤ e) in
    let bias : IsBias (bias_corrected (stats 0 b1 s.c n1)).c = balanced_bias b1 s.c n1 (record { low = sound.bias_low; high = sound.bias_high }) in
    subst (AreSound reset (error_bound maxval))
    (step_is reset s.a s.n (unsigned_abs e) s.b s.c e a1 n1 b1 (s.b +ℤ e) _ _ refl refl refl refl refl refl refl)
    (sound_is reset (error_bound maxval) s.a s.n (unsigned_abs e) a1 n1 s.b s.c b1 _ _ least sound (error_size maxval e error) refl refl refl bias.low bias.high)

pub counts_step_sound : (ri_type : Bool) (reset maxval : ℕ) (s : Counts) (e : ℤ) → 3 ≤ reset → AreSoundCounts reset (error_bound maxval) s → IsReduced (range_of maxval) e
    → AreSoundCounts reset (error_bound maxval) (counts_step ri_type reset s e)
counts_step_sound ri_type reset maxval s e least sound error =
    let value : ℕ = interruption_value ri_type s e in
    let type : ℕ = bool_byte ri_type in
    let more : ℕ = bool_byte (int_lt e (pos 0)) in
    let a1 : ℕ = cond (eqb s.n reset) ((s.a + (value + 1 - type) / 2) / 2) (s.a + (value + 1 - type) / 2) in
    let n1 : ℕ = cond (eqb s.n reset) (s.n / 2 + 1) (s.n + 1) in
    let nn1 : ℕ = cond (eqb s.n reset) ((s.nn + more) / 2) (s.nn + more) in
    subst (AreSoundCounts reset (error_bound maxval))
    (counts_step_is ri_type reset s.a s.n s.nn value type more e a1 n1 nn1 refl refl refl refl refl refl)
    (sound_counts ri_type reset (error_bound maxval) s.a s.n s.nn value type more e a1 n1 nn1 least sound (error_size maxval e error) refl refl refl refl refl refl)

-- ---- lawful events leave sound counters

stats_kept : (p : Parameters) (events : List Event) (event : Event) (number : ℕ) → IsLegal p → MayComeNext p events event
    → ((other : ℕ) → AreSound p.reset (error_bound p.maxval) (stats_after_events p other events))
    → AreSound p.reset (error_bound p.maxval) (stats_after_events p number (events ++ event ∷ []))
stats_kept p events event number legal (by_sample n sample samples within mode uninterrupted same) sound =
    let other : ℕ = (context_of p n).number in
    let e : ℤ = regular_error_of p (context_of p n) (stats_after_events p other events) n sample in
    subst (λ (v : Event). AreSound p.reset (error_bound p.maxval) (stats_after_events p number (events ++ v ∷ []))) (sym same)
    (elim (same_or_not number other) [
      | inl own ↦
          subst (λ i. AreSound p.reset (error_bound p.maxval) (stats_after_events p i (events ++ regular other e ∷ []))) (sym own)
          (subst (AreSound p.reset (error_bound p.maxval)) (sym (stats_after_events-own p events other e))
          (stats_step_sound p.reset p.maxval (stats_after_events p other events) e legal.some_reset (sound other) (regular_error_of-reduced p n (stats_after_events p other events) sample within)))
      | inr apart ↦ subst (AreSound p.reset (error_bound p.maxval)) (sym (stats_after_events-other p events number other e apart)) (sound number)
    ])
stats_kept p events event number legal (by_run count interrupted some uninterrupted same) sound =
    subst (λ (v : Event). AreSound p.reset (error_bound p.maxval) (stats_after_events p number (events ++ v ∷ []))) (sym same)
    (subst (AreSound p.reset (error_bound p.maxval)) (stats_after_events-run p events (run_of count interrupted) number) (sound number))
stats_kept p events event number legal (by_interruption n sample samples other interrupted same) sound =
    subst (λ (v : Event). AreSound p.reset (error_bound p.maxval) (stats_after_events p number (events ++ v ∷ []))) (sym same)
    (subst (AreSound p.reset (error_bound p.maxval)) (stats_after_events-interruption p events (ri_type_of n) (interruption_error p n sample) number) (sound number))

pub stats_after_events-sound : (p : Parameters) (events : List Event) (number : ℕ) → IsLegal p → IsLawful p events → AreSound p.reset (error_bound p.maxval) (stats_after_events p number events)
stats_after_events-sound p _ number legal none = first_stats_sound p legal
stats_after_events-sound p _ number legal (more events event lawful follows) =
    stats_kept p events event number legal follows (λ other. stats_after_events-sound p events other legal lawful)

-- one more error in one of the two contexts, and none in the other
counts_kept-interruption : (p : Parameters) (events : List Event) (ri_type own : Bool) (e : ℤ) → IsLegal p → IsReduced (range_of p.maxval) e
    → AreSoundCounts p.reset (error_bound p.maxval) (counts_after_events p ri_type events)
    → AreSoundCounts p.reset (error_bound p.maxval) (counts_after_events p ri_type (events ++ interruption own e ∷ []))
counts_kept-interruption p events true true e legal error sound =
    subst (AreSoundCounts p.reset (error_bound p.maxval)) (sym (counts_after_events-own p events true e)) (counts_step_sound true p.reset p.maxval (counts_after_events p true events) e legal.some_reset sound error)
counts_kept-interruption p events true false e legal error sound = subst (AreSoundCounts p.reset (error_bound p.maxval)) (ri_type_1_kept p events e) sound
counts_kept-interruption p events false true e legal error sound = subst (AreSoundCounts p.reset (error_bound p.maxval)) (ri_type_0_kept p events e) sound
counts_kept-interruption p events false false e legal error sound =
    subst (AreSoundCounts p.reset (error_bound p.maxval)) (sym (counts_after_events-own p events false e)) (counts_step_sound false p.reset p.maxval (counts_after_events p false events) e legal.some_reset sound error)

counts_kept : (p : Parameters) (events : List Event) (event : Event) (ri_type : Bool) → IsLegal p → MayComeNext p events event
    → AreSoundCounts p.reset (error_bound p.maxval) (counts_after_events p ri_type events)
    → AreSoundCounts p.reset (error_bound p.maxval) (counts_after_events p ri_type (events ++ event ∷ []))
counts_kept p events event ri_type legal (by_sample n sample samples within mode uninterrupted same) sound =
    subst (λ (v : Event). AreSoundCounts p.reset (error_bound p.maxval) (counts_after_events p ri_type (events ++ v ∷ []))) (sym same)
    (subst (AreSoundCounts p.reset (error_bound p.maxval))
    (counts_after_events-regular p events (context_of p n).number (regular_error_of p (context_of p n) (stats_after_events p (context_of p n).number events) n sample) ri_type) sound)
counts_kept p events event ri_type legal (by_run count interrupted some uninterrupted same) sound =
    subst (λ (v : Event). AreSoundCounts p.reset (error_bound p.maxval) (counts_after_events p ri_type (events ++ v ∷ []))) (sym same)
    (subst (AreSoundCounts p.reset (error_bound p.maxval)) (counts_after_events-run p events (run_of count interrupted) ri_type) sound)
counts_kept p events event ri_type legal (by_interruption n sample samples other interrupted same) sound =
    subst (λ (v : Event). AreSoundCounts p.reset (error_bound p.maxval) (counts_after_events p ri_type (events ++ v ∷ []))) (sym same)
    (counts_kept-interruption p events ri_type (ri_type_of n) (interruption_error p n sample) legal (interruption_error-reduced p n sample samples other.within) sound)

pub counts_after_events-sound : (p : Parameters) (events : List Event) (ri_type : Bool) → IsLegal p → IsLawful p events → AreSoundCounts p.reset (error_bound p.maxval) (counts_after_events p ri_type events)
counts_after_events-sound p _ ri_type legal none = first_counts_sound p legal
counts_after_events-sound p _ ri_type legal (more events event lawful follows) = counts_kept p events event ri_type legal follows (counts_after_events-sound p events ri_type legal lawful)

-- ---- and so words are short

pub sample_cost : (p : Parameters) (events : List Event) → IsLegal p → IsLawful p events → (n : Neighbours) (sample : ℕ) → AreSamples p.maxval n → sample ≤ p.maxval
    → length (golomb_bits p (regular_word p (stats_after_events p (context_of p n).number events) (regular_error_of p (context_of p n) (stats_after_events p (context_of p n).number events) n sample)))
    ≤ limit_of p.maxval
sample_cost p events legal lawful n sample samples within =
    let s : Stats = stats_after_events p (context_of p n).number events in
    length-code_word _ _ _ (regular_word p s (regular_error_of p (context_of p n) s n sample)).value
    (regular_code p.reset p.maxval s legal.some_maxval legal.maxval (stats_after_events-sound p events (context_of p n).number legal lawful))

some_limit : (maxval : ℕ) → 17 ≤ limit_of maxval
some_limit maxval = let large = limit_large maxval (qbpp_of maxval) refl in omega (arith, large)

pub full_run_cost : (p : Parameters) (events : List Event) → IsLegal p → IsLawful p events → (count : ℕ) → 0 < count
    → length (run_bits (run_index_after_events events) (run_of count false)) ≤ limit_of p.maxval * count
full_run_cost p events legal lawful count some = full_cost (run_index_after_events events) count (limit_of p.maxval) (omega (arith, some_limit p.maxval))

pub interrupted_run_cost : (p : Parameters) (events : List Event) → IsLegal p → IsLawful p events → (count : ℕ) (n : Neighbours) (sample : ℕ)
    → AreSamples p.maxval n → Interrupts p.maxval n.a sample
    → length (run_bits (run_index_after_events events) (run_of count true)
    ++ golomb_bits p (interruption_word p (index_at (run_index_after_events events) (run_of count true)) (ri_type_of n) (counts_after_events p (ri_type_of n) events) (interruption_error p n sample)))
    ≤ limit_of p.maxval * (count + 1)
interrupted_run_cost p events legal lawful count n sample samples other =
    let index : ℕ = index_at (run_index_after_events events) (run_of count true) in
    let s : Counts = counts_after_events p (ri_type_of n) events in
    let word = interruption_word p index (ri_type_of n) s (interruption_error p n sample) in
    let short : length (golomb_bits p word) ≤ limit_of p.maxval - order index - 1 =
    length-code_word _ _ _ word.value (interruption_code (ri_type_of n) p.reset p.maxval index s legal.some_maxval legal.maxval (counts_after_events-sound p events (ri_type_of n) legal lawful)) in
    let before = interrupted_cost (run_index_after_events events) count (limit_of p.maxval) (some_limit p.maxval) in
    omega (arith, length-append (run_bits (run_index_after_events events) (run_of count true)) (golomb_bits p word))
