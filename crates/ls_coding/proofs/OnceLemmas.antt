-- After lawful events, no bits begin with the words of two different samples.
use Rattle.std.proofs.Common.{◌≡◌, ℕ, ◌+◌, ◌*◌, ◌<◌, ◌≤◌, Bool, true, false, ℤ, pos, negsuc, List, ◌++◌, sym, ◌∙◌, ap, arith}
use Rattle.std.specs.Prelude.{int_le}
use Rattle.std.proofs.lemmas.Bool.{cond-true, le-leb}
use Rattle.std.proofs.lemmas.Int.{ints}
use Rattle.ls_frame.specs.Parameters.{Parameters, IsLegal, qbpp_of, limit_of}
use Rattle.ls_bits.specs.Golomb.{IsGolomb, most_value}
use Rattle.ls_bits.proofs.GolombLaws.{same_word}
use Rattle.ls_coding.specs.declared.neighbours.Neighbours.{Neighbours}
use Rattle.ls_coding.specs.Samples.{AreSamples, Interrupts}
use Rattle.ls_coding.specs.Contexts.{context_of}
use Rattle.ls_coding.specs.Errors.{error_of, mapped_error, is_inverted}
use Rattle.ls_coding.specs.Stats.{Stats}
use Rattle.ls_coding.specs.Interruptions.{Counts, ri_type_of, interruption_negative, interruption_prediction, interruption_error, interruption_value, interruption_k}
use Rattle.ls_coding.specs.Numbers.{golomb_parameter}
use Rattle.ls_coding.specs.Events.{Event, stats_after_events, counts_after_events, regular_error_of, regular_word, interruption_word, golomb_bits}
use Rattle.ls_coding.specs.Lawful.{IsLawful}
use Rattle.ls_coding.specs.View.States.{Coding, stats_in, context_in, regular_error_in, regular_word_in, interruption_word_in}
use Rattle.ls_coding.proofs.CostLemmas.{regular_error_of-reduced, interruption_error-reduced, prediction_of, stats_after_events-sound, counts_after_events-sound}
use Rattle.ls_coding.proofs.ErrorLemmas.{error_of-once, interruption_prediction_small, interrupting_error}
use Rattle.ls_coding.proofs.InterruptionLemmas.{value_once}
use Rattle.ls_coding.proofs.WordLemmas.{regular_code, interruption_code, regular_value, interruption_value_small}

-- ---- a sample of regular mode

up : (n : ℕ) → int_le (pos 0) (pos n) ≡ true
up n = le-leb 0 n (omega arith)

mapped_up : (inverted : Bool) (n : ℕ) → ℕ
mapped_up true n = 2 * n + 1
mapped_up false n = 2 * n

mapped-pos : (inverted : Bool) (n : ℕ) → mapped_error inverted (pos n) ≡ mapped_up inverted n
unfolding mapped_up
mapped-pos true n = cond-true _ _ _ (up n)
mapped-pos false n = cond-true _ _ _ (up n)

mapped_once : (inverted : Bool) (d e : ℤ) → mapped_error inverted d ≡ mapped_error inverted e → d ≡ e
unfolding mapped_up
mapped_once true (pos m) (pos n) h = let same : m ≡ n = omega (arith, mapped-pos true m, mapped-pos true n) in ap pos same
mapped_once true (pos m) (negsuc n) h = absurd (omega (arith, ints, mapped-pos true m))
mapped_once true (negsuc m) (pos n) h = absurd (omega (arith, ints, mapped-pos true n))
mapped_once true (negsuc m) (negsuc n) h = omega (arith, ints)
mapped_once false (pos m) (pos n) h = let same : m ≡ n = omega (arith, mapped-pos false m, mapped-pos false n) in ap pos same
mapped_once false (pos m) (negsuc n) h = absurd (omega (arith, ints, mapped-pos false m))
mapped_once false (negsuc m) (pos n) h = absurd (omega (arith, ints, mapped-pos false n))
mapped_once false (negsuc m) (negsuc n) h = omega (arith, ints)

regular_once : (p : Parameters) (s : Stats) (n : Neighbours) (x y : ℕ) (bits : List Bool) (rest others : List Bool) → IsLegal p
    → IsGolomb (golomb_parameter s.n s.a) (limit_of p.maxval) (qbpp_of p.maxval) → x ≤ p.maxval → y ≤ p.maxval
    → bits ≡ golomb_bits p (regular_word p s (regular_error_of p (context_of p n) s n x)) ++ rest
    → bits ≡ golomb_bits p (regular_word p s (regular_error_of p (context_of p n) s n y)) ++ others
    → (x ≡ y) × (rest ≡ others)
regular_once p s n x y bits rest others legal golomb h k e f =
    let k0 : ℕ = golomb_parameter s.n s.a in
    let inverted : Bool = is_inverted k0 s.b s.n in
    let value : ℕ → ℕ = λ one. mapped_error inverted (regular_error_of p (context_of p n) s n one) in
    let small : (one : ℕ) → one ≤ p.maxval → value one ≤ most_value (qbpp_of p.maxval) =
    λ one inside. regular_value inverted p.maxval (regular_error_of p (context_of p n) s n one) legal.some_maxval legal.maxval (regular_error_of-reduced p n s one inside) in
    let same = same_word k0 (limit_of p.maxval) (qbpp_of p.maxval) bits (value x) (value y) rest others golomb
    (record { value = small x h; word = e }) (record { value = small y k; word = f }) in
    let prediction = prediction_of p (context_of p n).negative s.c n in (
      error_of-once p prediction.0 x y (context_of p n).negative prediction.1 h k
          (ap (λ z. error_of p (context_of p n).negative z x) (sym prediction.2)
          ∙ mapped_once inverted _ _ same.0
          ∙ ap (λ z. error_of p (context_of p n).negative z y) prediction.2),
      same.1,
    )

pub sample_once : (p : Parameters) (events : List Event) → IsLegal p → IsLawful p events → (n : Neighbours) (x y : ℕ) (bits rest others : List Bool)
    → x ≤ p.maxval → y ≤ p.maxval
    → bits ≡ golomb_bits p (regular_word p (stats_after_events p (context_of p n).number events) (regular_error_of p (context_of p n) (stats_after_events p (context_of p n).number events) n x)) ++ rest
    → bits ≡ golomb_bits p (regular_word p (stats_after_events p (context_of p n).number events) (regular_error_of p (context_of p n) (stats_after_events p (context_of p n).number events) n y)) ++ others
    → (x ≡ y) × (rest ≡ others)
sample_once p events legal lawful n x y bits rest others h k e f =
    let s : Stats = stats_after_events p (context_of p n).number events in
    regular_once p s n x y bits rest others legal
    (regular_code p.reset p.maxval s legal.some_maxval legal.maxval (stats_after_events-sound p events (context_of p n).number legal lawful)) h k e f

-- ---- the sample that interrupts a run

pub interruption_once : (p : Parameters) (events : List Event) (index : ℕ) → IsLegal p → IsLawful p events → (n : Neighbours) (x y : ℕ) (bits rest others : List Bool)
    → AreSamples p.maxval n → Interrupts p.maxval n.a x → Interrupts p.maxval n.a y
    → bits ≡ golomb_bits p (interruption_word p index (ri_type_of n) (counts_after_events p (ri_type_of n) events) (interruption_error p n x)) ++ rest
    → bits ≡ golomb_bits p (interruption_word p index (ri_type_of n) (counts_after_events p (ri_type_of n) events) (interruption_error p n y)) ++ others
    → (x ≡ y) × (rest ≡ others)
interruption_once p events index legal lawful n x y bits rest others samples h k e f =
    let ri_type : Bool = ri_type_of n in
    let s : Counts = counts_after_events p ri_type events in
    let golomb = interruption_code ri_type p.reset p.maxval index s legal.some_maxval legal.maxval (counts_after_events-sound p events ri_type legal lawful) in
    let small : (one : ℕ) → Interrupts p.maxval n.a one → interruption_value ri_type s (interruption_error p n one) ≤ most_value (qbpp_of p.maxval) =
    λ one other. interruption_value_small p.maxval _ _ (interruption_error p n one) legal.some_maxval legal.maxval (interruption_error-reduced p n one samples other.within) in
    let same = same_word _ _ _ bits _ _ rest others golomb (record { value = small x h; word = e }) (record { value = small y k; word = f }) in (
      error_of-once p (interruption_prediction n) x y (interruption_negative n) (interruption_prediction_small p.maxval n samples) h.within k.within
          (value_once ri_type (interruption_k ri_type s) s.n s.nn _ _
          (λ is. interrupting_error p n x samples h is) (λ is. interrupting_error p n y samples k is) same.0),
      same.1,
    )

-- ---- the same, from any state

pub regular_value_in : (s : Coding) (n : Neighbours) (x : ℕ) → 0 < s.parameters.maxval → s.parameters.maxval ≤ 65535 → x ≤ s.parameters.maxval
    → (regular_word_in s n x).value ≤ most_value (qbpp_of s.parameters.maxval)
unfolding regular_word_in regular_error_in
regular_value_in s n x some most h =
    regular_value _ s.parameters.maxval _ some most (regular_error_of-reduced s.parameters n (stats_in s (context_in s n).number) x h)

pub interruption_value_in : (s : Coding) (n : Neighbours) (x : ℕ) → 0 < s.parameters.maxval → s.parameters.maxval ≤ 65535 → AreSamples s.parameters.maxval n → x ≤ s.parameters.maxval
    → (interruption_word_in s n x).value ≤ most_value (qbpp_of s.parameters.maxval)
unfolding interruption_word_in
interruption_value_in s n x some most samples h =
    interruption_value_small s.parameters.maxval _ _ (interruption_error s.parameters n x) some most (interruption_error-reduced s.parameters n x samples h)
