-- Leading ones of a number, and the bits of an interrupted run at the front of known bits.
use Rattle.std.proofs.Common.{◌≡◌, ℕ, zero, suc, ◌+◌, ◌-◌, ◌/◌, ◌%◌, ◌^◌, ◌<◌, ◌≤◌, Bool, true, false, not, eqb, List, [], ◌∷◌, ◌++◌, length, take, drop, replicate, inl, inr, refl, sym, ◌∙◌, ap, arith, append_assoc, length-append}
use Rattle.std.proofs.lemmas.Bool.{cases_lt}
use Rattle.std.proofs.lemmas.List.{length-replicate, replicate-append-replicate}
use Rattle.std.proofs.lemmas.Nat.Bits.{bit_at_not}
use Rattle.std.specs.Int.{bit_at, bit_not, w64}
use Rattle.ls_bits.specs.Bits.{has_bit, bits_of, zeros}
use Rattle.ls_bits.specs.View.Taking.{LeadingZeros, found, none}
use Rattle.ls_bits.proofs.BitLemmas.{bits_of-mod, bits_of-split, length-bits_of}
use Rattle.ls_bits.proofs.PlainLemmas.{begun}

-- ---- a 1 for each 0, and a 0 for each 1

abbrev flipped : List Bool → List Bool
flipped [] = []
flipped (bit ∷ bits) = not bit ∷ flipped bits

flipped-twice : (bits : List Bool) → flipped (flipped bits) ≡ bits
flipped-twice [] = refl
flipped-twice (true ∷ bits) = ap (λ x. true ∷ x) (flipped-twice bits)
flipped-twice (false ∷ bits) = ap (λ x. false ∷ x) (flipped-twice bits)

flipped-append : (xs ys : List Bool) → flipped (xs ++ ys) ≡ flipped xs ++ flipped ys
flipped-append [] ys = refl
flipped-append (x ∷ xs) ys = ap (λ bits. not x ∷ bits) (flipped-append xs ys)

flipped-zeros : (count : ℕ) → flipped (zeros count) ≡ replicate count true
flipped-zeros zero = refl
flipped-zeros (suc count) = ap (λ bits. true ∷ bits) (flipped-zeros count)

other_bit : (bit : ℕ) → bit < 2 → eqb (1 - bit) 1 ≡ not (eqb bit 1)
other_bit zero h = refl
other_bit (suc zero) h = refl
other_bit (suc (suc bit)) h = absurd (omega arith)

flipped-number : (count n : ℕ) → n < 2 ^ 64 → count ≤ 64 → bits_of count (bit_not w64 n) ≡ flipped (bits_of count n)
flipped-number zero n fits few = refl
flipped-number (suc count) n fits few =
    let first : has_bit (bit_not w64 n) count ≡ not (has_bit n count) =
    ap (λ bit. eqb bit 1) (bit_at_not w64 n count fits (omega arith)) ∙ other_bit (bit_at n count) (omega arith) in
    let others : bits_of count (bit_not w64 n) ≡ flipped (bits_of count n) = flipped-number count n fits (omega arith) in
    cc

-- ---- leading ones

pub ones_and_more : (n count : ℕ) → n < 2 ^ 64 → LeadingZeros 64 (bit_not w64 n) count → count < 64
    → bits_of 64 n ≡ replicate count true ++ false ∷ bits_of (63 - count) n
ones_and_more n count fits (none all e) few = absurd (omega arith)
ones_and_more n count fits (found less e) few =
    let after : 64 - (count + 1) ≡ 63 - count = omega arith in
    let more : flipped (bits_of (64 - (count + 1)) (bit_not w64 n)) ≡ bits_of (63 - count) n =
    ap flipped (flipped-number (64 - (count + 1)) n fits (omega arith)) ∙ flipped-twice (bits_of (64 - (count + 1)) n) ∙ ap (λ m. bits_of m n) after in
    sym (flipped-twice (bits_of 64 n)) ∙ ap flipped (sym (flipped-number 64 n fits (omega arith)) ∙ e)
    ∙ flipped-append (zeros count) (true ∷ bits_of (64 - (count + 1)) (bit_not w64 n))
    ∙ ap (λ bits. bits ++ false ∷ flipped (bits_of (64 - (count + 1)) (bit_not w64 n))) (flipped-zeros count)
    ∙ ap (λ bits. replicate count true ++ false ∷ bits) more

pub ones_alone : (n count : ℕ) → n < 2 ^ 64 → LeadingZeros 64 (bit_not w64 n) count → 64 ≤ count → bits_of 64 n ≡ replicate 64 true
ones_alone n count fits (found less e) many = absurd (omega arith)
ones_alone n count fits (none all e) many =
    sym (flipped-twice (bits_of 64 n)) ∙ ap flipped (sym (flipped-number 64 n fits (omega arith)) ∙ e) ∙ flipped-zeros 64

-- ---- what bits begin with, by the first of them

-- a run that a sample interrupts
pub run_begun : (front ones width rest : ℕ) (bits : List Bool) → bits_of 64 front ≡ replicate ones true ++ false ∷ bits_of (63 - ones) front
    → ones + 1 + width ≤ 57 → rest ≡ front / 2 ^ (63 - ones - width) % 2 ^ width
    → take (ones + 1 + width) (bits_of 64 front) ≡ take (ones + 1 + width) bits
    → bits ≡ replicate ones true ++ false ∷ bits_of width rest ++ drop (ones + 1 + width) bits
run_begun front ones width rest bits e room is same =
    let left : ℕ = 63 - ones - width in
    let sum : width + left ≡ 63 - ones = omega arith in
    let number : bits_of width (front / 2 ^ left) ≡ bits_of width rest =
    sym (ap (bits_of width) is ∙ bits_of-mod width width (front / 2 ^ left) (omega arith)) in
    let split : bits_of (63 - ones) front ≡ bits_of width rest ++ bits_of left front =
    sym (ap (λ n. bits_of n front) sum) ∙ bits_of-split width left front ∙ ap (λ list. list ++ bits_of left front) number in
    let run : List Bool = replicate ones true ++ false ∷ bits_of width rest in
    let whole : bits_of 64 front ≡ run ++ bits_of left front =
    e ∙ ap (λ list. replicate ones true ++ false ∷ list) split ∙ sym (append_assoc (replicate ones true) (false ∷ bits_of width rest) (bits_of left front)) in
    let size : length run ≡ ones + 1 + width =
    length-append (replicate ones true) (false ∷ bits_of width rest) ∙ omega (arith, length-replicate ones true, length-bits_of width rest) in
    begun (ones + 1 + width) (bits_of 64 front) bits run (bits_of left front) same whole (omega (arith, size))
    ∙ ap (λ n. run ++ drop n bits) size

ones_split : (front ones seen : ℕ) → (ones < 64 → bits_of 64 front ≡ replicate ones true ++ false ∷ bits_of (63 - ones) front)
    → (64 ≤ ones → bits_of 64 front ≡ replicate 64 true) → seen ≤ ones → seen ≤ 57
    → (rest : List Bool) × (bits_of 64 front ≡ replicate seen true ++ rest)
ones_split front ones seen some all enough few =
    elim (cases_lt ones 64) [
      | inl less ↦
          let sum : seen + (ones - seen) ≡ ones = omega arith in
          let parts : replicate seen true ++ replicate (ones - seen) true ≡ replicate ones true =
          replicate-append-replicate seen (ones - seen) true ∙ ap (λ n. replicate n true) sum in (
            replicate (ones - seen) true ++ false ∷ bits_of (63 - ones) front,
            some less ∙ ap (λ list. list ++ false ∷ bits_of (63 - ones) front) (sym parts)
                ∙ append_assoc (replicate seen true) (replicate (ones - seen) true) (false ∷ bits_of (63 - ones) front),
          )
      | inr more ↦
          let sum : seen + (64 - seen) ≡ 64 = omega arith in
          let parts : replicate seen true ++ replicate (64 - seen) true ≡ replicate 64 true =
          replicate-append-replicate seen (64 - seen) true ∙ ap (λ n. replicate n true) sum in
          (replicate (64 - seen) true, all more ∙ sym parts)
    ]

pub ones_begun : (front ones seen : ℕ) (bits : List Bool) → (ones < 64 → bits_of 64 front ≡ replicate ones true ++ false ∷ bits_of (63 - ones) front)
    → (64 ≤ ones → bits_of 64 front ≡ replicate 64 true) → seen ≤ ones → seen ≤ 57
    → take seen (bits_of 64 front) ≡ take seen bits → bits ≡ replicate seen true ++ drop seen bits
ones_begun front ones seen bits some all enough few same =
    let begins = ones_split front ones seen some all enough few in
    let size : length (replicate seen true) ≡ seen = length-replicate seen true in
    begun seen (bits_of 64 front) bits (replicate seen true) begins.0 same begins.1 (omega (arith, size))
    ∙ ap (λ n. replicate seen true ++ drop n bits) size
