-- Runs, bit by bit.
use Rattle.std.proofs.Common.{◌≡◌, ℕ, zero, suc, ◌+◌, ◌-◌, ◌*◌, ◌^◌, ◌<◌, ◌≤◌, min, Bool, true, false, cond, eqb, leb, ◌&&◌, List, [], ◌∷◌, get_or, length, length-append, replicate, refl, sym, ◌∙◌, ap, subst, arith, inl, inr}
use Rattle.std.proofs.lemmas.Bool.{and_parts, leb-true, le-leb, lt-leb, cases_lt, cond-true, cond-false, eqb-false}
use Rattle.std.proofs.lemmas.Nat.{pow_pos, mul-le}
use Rattle.std.proofs.lemmas.List.{length-replicate}
use Rattle.ls_bits.proofs.BitLemmas.{length-bits_of}
use Rattle.ls_coding.specs.declared.run.Tail.{Tail}
use Rattle.ls_coding.specs.declared.run.Tail.TheVariants.{LineFull, LinePart, Interrupted}
use Rattle.ls_coding.specs.declared.run.RunWord.{RunWord}
use Rattle.ls_coding.specs.Runs.{run_orders, order, run_of, Walk, walk, walked, tail_of, tail_bits, TailFits, run_word, word_bits, index_at}

all_small : List ℕ → Bool
all_small [] = true
all_small (x ∷ xs) = leb x 15 && all_small xs

small_at : (xs : List ℕ) (i : ℕ) → all_small xs ≡ true → get_or xs i 0 ≤ 15
unfolding all_small
small_at [] i h = omega arith
small_at (x ∷ xs) zero h = leb-true x 15 (and_parts _ _ h).0
small_at (x ∷ xs) (suc i) h = small_at xs i (and_parts _ _ h).1

-- no order is over 15
pub order_small : (index : ℕ) → order index ≤ 15
unfolding all_small
order_small index = small_at run_orders index refl

pub some_samples : (index : ℕ) → 1 ≤ 2 ^ order index
some_samples index = pow_pos (order index)

-- ---- one more bit 1

abbrev pub at : ℕ → ℕ → ℕ → Walk
at ones index left = record { ones = ones; index = index; left = left }

abbrev pub further : Walk → Walk
further w = at (w.ones + 1) (min (w.index + 1) 31) (w.left - 2 ^ order w.index)

pub walk-more : (most : ℕ) (w : Walk) → 2 ^ order w.index ≤ w.left → walk (suc most) w ≡ walk most (further w)
walk-more most w h = cond-true _ _ _ (le-leb (2 ^ order w.index) w.left h)

pub walk-stop : (most : ℕ) (w : Walk) → w.left < 2 ^ order w.index → walk most w ≡ w
walk-stop zero w h = refl
walk-stop (suc most) w h = cond-false _ _ _ (lt-leb (2 ^ order w.index) w.left h)

-- once enough bits are allowed, more change nothing
pub walk-enough : (most more : ℕ) (w : Walk) → w.left ≤ most → w.left ≤ more → walk most w ≡ walk more w
walk-enough zero more w h k =
    let some : 1 ≤ 2 ^ order w.index = some_samples w.index in
    sym (walk-stop more w (omega arith))
walk-enough (suc most) zero w h k =
    let some : 1 ≤ 2 ^ order w.index = some_samples w.index in
    walk-stop (suc most) w (omega arith)
walk-enough (suc most) (suc more) w h k =
    let some : 1 ≤ 2 ^ order w.index = some_samples w.index in
    elim (cases_lt w.left (2 ^ order w.index)) [
      | inl few ↦ walk-stop (suc most) w few ∙ sym (walk-stop (suc more) w few)
      | inr enough ↦ walk-more most w enough ∙ walk-enough most more (further w) (omega arith) (omega arith) ∙ sym (walk-more more w enough)
    ]

-- the walk goes on from where it is
pub walk-on : (ones index left : ℕ) → 2 ^ order index ≤ left
    → walk left (at ones index left) ≡ walk (left - 2 ^ order index) (at (ones + 1) (min (index + 1) 31) (left - 2 ^ order index))
walk-on ones index zero h = let some : 1 ≤ 2 ^ order index = some_samples index in absurd (omega arith)
walk-on ones index (suc left) h =
    let some : 1 ≤ 2 ^ order index = some_samples index in
    walk-more left (at ones index (suc left)) h
    ∙ walk-enough left (suc left - 2 ^ order index) (further (at ones index (suc left))) (omega arith) (omega arith)

-- ---- a run that one bit stands for, and one shorter than that

one_bit : (samples index : ℕ) → samples ≡ 2 ^ order index → 1 ≤ samples → walk samples (at 0 index samples) ≡ at 1 (min (index + 1) 31) 0
one_bit zero index e h = absurd (omega arith)
one_bit (suc most) index e h =
    let some : 1 ≤ 2 ^ order (min (index + 1) 31) = some_samples (min (index + 1) 31) in
    let none : suc most - 2 ^ order index ≡ 0 = omega arith in
    walk-more most (at 0 index (suc most)) (omega arith)
    ∙ ap (λ n. walk most (at (0 + 1) (min (index + 1) 31) n)) none
    ∙ walk-stop most (at 1 (min (index + 1) 31) 0) (omega arith)

pub walked_one : (index : ℕ) → walked index (2 ^ order index) ≡ at 1 (min (index + 1) 31) 0
unfolding walked
walked_one index = one_bit (2 ^ order index) index refl (some_samples index)

pub walked_part : (index count : ℕ) → count < 2 ^ order index → walked index count ≡ at 0 index count
unfolding walked
walked_part index count h = walk-stop count (at 0 index count) h

-- no more bits than samples
walk_counts : (most : ℕ) (w : Walk) → (walk most w).ones + (walk most w).left ≤ w.ones + w.left
walk_counts zero w = omega arith
walk_counts (suc most) w =
    elim (cases_lt w.left (2 ^ order w.index)) [
      | inl few ↦ omega (arith, ap (λ (v : Walk). v.ones + v.left) (walk-stop (suc most) w few))
      | inr enough ↦
          let some : 1 ≤ 2 ^ order w.index = some_samples w.index in
          let step : (walk (suc most) w).ones + (walk (suc most) w).left ≡ (walk most (further w)).ones + (walk most (further w)).left = ap (λ (v : Walk). v.ones + v.left) (walk-more most w enough) in
          omega (arith, walk_counts most (further w))
    ]

pub walked_counts : (index count : ℕ) → (walked index count).ones + (walked index count).left ≤ count
unfolding walked
walked_counts index count = omega (arith, walk_counts count (at 0 index count))

-- ---- what a run costs

tail_length : Tail → ℕ
tail_length LineFull = 0
tail_length LinePart = 1
tail_length (Interrupted width rest) = width + 1

length-tail_bits : (tail : Tail) → length (tail_bits tail) ≡ tail_length tail
unfolding tail_length
length-tail_bits LineFull = refl
length-tail_bits LinePart = refl
length-tail_bits (Interrupted width rest) = omega (arith, length-bits_of width rest)

length-word : (word : RunWord) → length (word_bits word) ≡ word.ones + tail_length word.tail
length-word word =
    length-append (replicate word.ones true) (tail_bits word.tail)
    ∙ ap (λ n. n + length (tail_bits word.tail)) (length-replicate word.ones true)
    ∙ ap (λ n. word.ones + n) (length-tail_bits word.tail)

full_tail_by : (w : Walk) (test : Bool) → eqb w.left 0 ≡ test → tail_length (cond test LineFull LinePart) ≤ w.left
unfolding tail_length
full_tail_by w true e = omega arith
full_tail_by w false e = let some : w.left ≡ 0 → ⊥ = eqb-false w.left 0 e in omega arith

full_tail : (w : Walk) → tail_length (tail_of false w) ≤ w.left
unfolding tail_length
full_tail w = full_tail_by w (eqb w.left 0) refl

-- a run up to the line's end has no more bits than samples
pub full_cost : (index count limit : ℕ) → 1 ≤ limit → length (word_bits (run_word index (run_of count false))) ≤ limit * count
unfolding run_word
full_cost index count limit some =
    let w : Walk = walked index count in
    let scaled : 1 * count ≤ limit * count = mul-le 1 count limit count some (omega arith) in
    omega (arith, length-word (run_word index (run_of count false)), full_tail w, walked_counts index count)

-- a run that a sample interrupts, with the most bits that the sample's word can have
pub interrupted_cost : (index count limit : ℕ) → 17 ≤ limit
    → length (word_bits (run_word index (run_of count true))) + (limit - order (index_at index (run_of count true)) - 1) ≤ limit * (count + 1)
unfolding run_word tail_length
interrupted_cost index count limit some =
    let w : Walk = walked index count in
    let scaled : 1 * count ≤ limit * count = mul-le 1 count limit count (omega arith) (omega arith) in
    omega (arith, length-word (run_word index (run_of count true)), order_small w.index, walked_counts index count)

-- ---- what is left of a run

walk_ends : (most : ℕ) (w : Walk) → w.left ≤ most → (walk most w).left < 2 ^ order (walk most w).index
walk_ends zero w h = let some : 1 ≤ 2 ^ order w.index = some_samples w.index in omega arith
walk_ends (suc most) w h =
    elim (cases_lt w.left (2 ^ order w.index)) [
      | inl few ↦ subst (λ (v : Walk). v.left < 2 ^ order v.index) (sym (walk-stop (suc most) w few)) few
      | inr enough ↦
          let some : 1 ≤ 2 ^ order w.index = some_samples w.index in
          subst (λ (v : Walk). v.left < 2 ^ order v.index) (sym (walk-more most w enough)) (walk_ends most (further w) (omega arith))
    ]

walked_ends : (index count : ℕ) → (walked index count).left < 2 ^ order (walked index count).index
unfolding walked
walked_ends index count = walk_ends count (at 0 index count) (omega arith)

full_fits : (test : Bool) → TailFits (cond test LineFull LinePart)
full_fits true = tt
full_fits false = tt

pub tail_fits : (index count : ℕ) (interrupted : Bool) → TailFits (run_word index (run_of count interrupted)).tail
unfolding run_word
tail_fits index count true = (order_small (walked index count).index, walked_ends index count)
tail_fits index count false = full_fits (eqb (walked index count).left 0)
