-- A run, bit by bit.
use Rattle.std.proofs.Common.{◌≡◌, ℕ, zero, suc, ◌+◌, ◌-◌, ◌^◌, ◌<◌, ◌≤◌, min, Bool, true, false, eqb, List, [], ◌∷◌, ◌++◌, replicate, refl, sym, ◌∙◌, ap, subst, arith, inl, inr}
use Rattle.std.proofs.lemmas.Bool.{cond-false, cases_lt, ne_eqb}
use Rattle.ls_frame.specs.Parameters.{Parameters}
use Rattle.ls_bits.specs.Bits.{bits_of}
use Rattle.ls_coding.specs.declared.run.RunWord.{RunWord}
use Rattle.ls_coding.specs.declared.run.Tail.TheVariants.{LineFull, LinePart, Interrupted}
use Rattle.ls_coding.specs.Runs.{order, samples_of_ones, run_of, Walk, walk, walked, tail_of, tail_bits, run_word, run_bits, index_at}
use Rattle.ls_coding.specs.Events.{Event, run, run_index_after_events}
use Rattle.ls_coding.specs.View.States.{Coding, state_of, run_after}
use Rattle.ls_coding.proofs.RunLemmas.{at, further, some_samples, walk-more, walk-stop, walk-on, walked_one, walked_part}
use Rattle.ls_coding.proofs.StateLemmas.{made, state_of-run}

abbrev bits_after : Bool → Walk → List Bool
bits_after interrupted w = replicate w.ones true ++ tail_bits (tail_of interrupted w)

run_bits-is : (index count : ℕ) (interrupted : Bool) → run_bits index (run_of count interrupted) ≡ bits_after interrupted (walked index count)
unfolding run_word
run_bits-is index count interrupted = refl

-- a walk that begins with one more bit ends with one more bit
abbrev one_more : Walk → Walk
one_more w = at (w.ones + 1) w.index w.left

walk-one_more : (most : ℕ) (w : Walk) → walk most (one_more w) ≡ one_more (walk most w)
walk-one_more zero w = refl
walk-one_more (suc most) w =
    elim (cases_lt w.left (2 ^ order w.index)) [
      | inl few ↦ walk-stop (suc most) (one_more w) few ∙ ap one_more (sym (walk-stop (suc most) w few))
      | inr enough ↦ walk-more most (one_more w) enough ∙ walk-one_more most (further w) ∙ ap one_more (sym (walk-more most w enough))
    ]

walked_on : (index count : ℕ) → 2 ^ order index ≤ count → walked index count ≡ one_more (walked (min (index + 1) 31) (count - 2 ^ order index))
unfolding walked
walked_on index count h = walk-on 0 index count h ∙ walk-one_more (count - 2 ^ order index) (at 0 (min (index + 1) 31) (count - 2 ^ order index))

add_one : (n : ℕ) → n + 1 ≡ suc n
add_one n = omega arith

bits_more : (interrupted : Bool) (w : Walk) → bits_after interrupted (one_more w) ≡ true ∷ bits_after interrupted w
bits_more true w = ap (λ n. replicate n true ++ tail_bits (tail_of true w)) (add_one w.ones)
bits_more false w = ap (λ n. replicate n true ++ tail_bits (tail_of false w)) (add_one w.ones)

pub one_bit_more : (index count : ℕ) (interrupted : Bool) → 2 ^ order index ≤ count
    → run_bits index (run_of count interrupted) ≡ true ∷ run_bits (min (index + 1) 31) (run_of (count - 2 ^ order index) interrupted)
one_bit_more index count interrupted h =
    run_bits-is index count interrupted ∙ ap (bits_after interrupted) (walked_on index count h) ∙ bits_more interrupted (walked (min (index + 1) 31) (count - 2 ^ order index))
    ∙ ap (λ bits. true ∷ bits) (sym (run_bits-is (min (index + 1) 31) (count - 2 ^ order index) interrupted))

pub one_bit_left : (index count : ℕ) → 0 < count → count < 2 ^ order index → run_bits index (run_of count false) ≡ true ∷ []
one_bit_left index count some few =
    run_bits-is index count false ∙ ap (bits_after false) (walked_part index count few)
    ∙ ap tail_bits (cond-false (eqb count 0) LineFull LinePart (ne_eqb count 0 (λ e. absurd (omega arith))))

pub no_bit_left : (index : ℕ) → run_bits index (run_of 0 false) ≡ []
no_bit_left index = run_bits-is index 0 false ∙ ap (bits_after false) (walked_part index 0 (some_samples index))

pub bits_of_break : (index count : ℕ) → count < 2 ^ order index → run_bits index (run_of count true) ≡ false ∷ bits_of (order index) count
bits_of_break index count few = run_bits-is index count true ∙ ap (bits_after true) (walked_part index count few)

-- ---- joined

index_joined : (index rest : ℕ) (interrupted : Bool) → index_at (index_at index (run_of (2 ^ order index) false)) (run_of rest interrupted) ≡ index_at index (run_of (2 ^ order index + rest) interrupted)
index_joined index rest interrupted =
    let samples : ℕ = 2 ^ order index in
    let back : samples + rest - samples ≡ rest = omega arith in
    let enough : samples ≤ samples + rest = omega arith in
    ap (λ (w : Walk). (walked w.index rest).index) (walked_one index)
    ∙ ap (λ n. (walked (min (index + 1) 31) n).index) (sym back)
    ∙ sym (ap (λ (w : Walk). w.index) (walked_on index (samples + rest) enough))

pub after_joined : (s : Coding) (rest : ℕ) (interrupted : Bool) → run_after (run_after s (run_of (2 ^ order s.run_index) false)) (run_of rest interrupted) ≡ run_after s (run_of (2 ^ order s.run_index + rest) interrupted)
after_joined s rest interrupted = ap (λ i. made s.parameters s.contexts s.ri_type_0 s.ri_type_1 i interrupted) (index_joined s.run_index rest interrupted)

index_of-state : (p : Parameters) (events : List Event) → (state_of p events).run_index ≡ run_index_after_events events
unfolding state_of
index_of-state p events = refl

pub joined : (p : Parameters) (events : List Event) (rest : ℕ) (interrupted : Bool)
    → state_of p ((events ++ run (run_of (2 ^ order (run_index_after_events events)) false) ∷ []) ++ run (run_of rest interrupted) ∷ [])
    ≡ state_of p (events ++ run (run_of (2 ^ order (run_index_after_events events) + rest) interrupted) ∷ [])
joined p events rest interrupted =
    let samples : ℕ = 2 ^ order (run_index_after_events events) in
    let known : 2 ^ order (state_of p events).run_index ≡ samples = ap (λ i. 2 ^ order i) (index_of-state p events) in
    sym (state_of-run p (events ++ run (run_of samples false) ∷ []) (run_of rest interrupted))
    ∙ ap (λ (s : Coding). run_after s (run_of rest interrupted)) (sym (state_of-run p events (run_of samples false)))
    ∙ ap (λ n. run_after (run_after (state_of p events) (run_of n false)) (run_of rest interrupted)) (sym known)
    ∙ after_joined (state_of p events) rest interrupted
    ∙ ap (λ n. run_after (state_of p events) (run_of (n + rest) interrupted)) known
    ∙ state_of-run p events (run_of (samples + rest) interrupted)

-- ---- bits 1 taken at once

walked_ones : (ones index rest : ℕ) → index + ones ≤ 31 → rest < 2 ^ order (index + ones) → walked index (samples_of_ones ones index + rest) ≡ at ones (index + ones) rest
unfolding samples_of_ones
walked_ones zero index rest h few =
    let same : index + 0 ≡ index = omega arith in
    let none : 0 + rest ≡ rest = omega arith in
    ap (walked index) none ∙ walked_part index rest (subst (λ n. rest < 2 ^ order n) same few) ∙ ap (λ n. at 0 n rest) (sym same)
walked_ones (suc ones) index rest h few =
    let next : min (index + 1) 31 ≡ index + 1 = omega arith in
    let last : index + 1 + ones ≡ index + suc ones = omega arith in
    let samples : ℕ = samples_of_ones ones (min (index + 1) 31) in
    let enough : 2 ^ order index ≤ 2 ^ order index + samples + rest = omega arith in
    let back : 2 ^ order index + samples + rest - 2 ^ order index ≡ samples + rest = omega arith in
    let step : walked (min (index + 1) 31) (2 ^ order index + samples + rest - 2 ^ order index) ≡ at ones (index + suc ones) rest =
    ap (walked (min (index + 1) 31)) back ∙ ap (λ n. walked n (samples_of_ones ones n + rest)) next
    ∙ walked_ones ones (index + 1) rest (omega arith) (subst (λ n. rest < 2 ^ order n) (sym last) few)
    ∙ ap (λ n. at ones n rest) last in
    walked_on index (2 ^ order index + samples + rest) enough ∙ ap one_more step ∙ ap (λ n. at n (index + suc ones) rest) (add_one ones)

pub word_of_ones : (ones index rest : ℕ) → index + ones ≤ 31 → rest < 2 ^ order (index + ones)
    → run_word index (run_of (samples_of_ones ones index + rest) true) ≡ record { ones = ones; tail = Interrupted (order (index + ones)) rest }
unfolding run_word
word_of_ones ones index rest h few =
    ap (λ (w : Walk). let word : RunWord = record { ones = w.ones; tail = tail_of true w } in word) (walked_ones ones index rest h few)

pub after_ones : (s : Coding) (ones index rest count : ℕ) → index ≡ s.run_index + ones → count ≡ samples_of_ones ones s.run_index + rest → s.run_index + ones ≤ 31
    → rest < 2 ^ order (s.run_index + ones) → made s.parameters s.contexts s.ri_type_0 s.ri_type_1 index true ≡ run_after s (run_of count true)
after_ones s ones index rest count e f h few =
    let at_end : (walked s.run_index count).index ≡ s.run_index + ones =
    ap (λ n. (walked s.run_index n).index) f ∙ ap (λ (w : Walk). w.index) (walked_ones ones s.run_index rest h few) in
    ap (λ i. made s.parameters s.contexts s.ri_type_0 s.ri_type_1 i true) (e ∙ sym at_end)
