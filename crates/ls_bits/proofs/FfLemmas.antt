-- How a word shows that none of its bytes is FF.
use Rattle.std.proofs.Common.{◌≡◌, ℕ, ◌+◌, ◌*◌, ◌/◌, ◌%◌, ◌^◌, ◌<◌, min, false, not, eqb, refl, sym, ap, ◌∙◌, arith}
use Rattle.std.proofs.lemmas.Bool.{not-false, eqb-true}
use Rattle.std.proofs.lemmas.Nat.{shr-shr, shr_split}
use Rattle.std.proofs.lemmas.Nat.Bits.{bit_at_and, bit_at_cat_low, bit_at_ones, bit_at-zero}
use Rattle.std.specs.Int.{bit_at}
use lib.Bits.{bit_and}
use Rattle.ls_bits.specs.View.Packing.{HasNoFf}

-- the bits that are one together with the bits one, two and four places above them
pairs : ℕ → ℕ
pairs word = bit_and word (word / 2)

fours : ℕ → ℕ
fours word = bit_and (pairs word) (pairs word / 4)

eights : ℕ → ℕ
eights word = bit_and (fours word) (fours word / 16)

shifted_bit : (n k i : ℕ) → bit_at (n / 2 ^ k) i ≡ bit_at n (k + i)
shifted_bit n k i = ap (λ m. m % 2) (shr-shr n k i)

both : (a b i : ℕ) → bit_at a i ≡ 1 → bit_at b i ≡ 1 → bit_at (bit_and a b) i ≡ 1
both a b i p q = bit_at_and a b i ∙ ap (λ n. min n (bit_at b i)) p ∙ ap (min 1) q

-- a byte FF has eight ones
ones_at : (word place j : ℕ) → word / 2 ^ place % 256 ≡ 255 → j < 8 → bit_at word (place + j) ≡ 1
ones_at word place j e h =
    let byte : ℕ = word / 2 ^ place in
    let low : bit_at (byte / 2 ^ 8 * 2 ^ 8 + byte % 2 ^ 8) j ≡ bit_at (byte % 2 ^ 8) j = bit_at_cat_low (byte / 2 ^ 8) 8 (byte % 2 ^ 8) j h in
    let whole : byte / 2 ^ 8 * 2 ^ 8 + byte % 2 ^ 8 ≡ byte = shr_split byte 8 in
    sym (shifted_bit word place j) ∙ sym (ap (λ n. bit_at n j) whole) ∙ low ∙ ap (λ n. bit_at n j) e ∙ bit_at_ones 8 j h

pairs_at : (word place j : ℕ) → word / 2 ^ place % 256 ≡ 255 → j < 7 → bit_at (pairs word) (place + j) ≡ 1
unfolding pairs
pairs_at word place j e h =
    let above : 1 + (place + j) ≡ place + (j + 1) = omega arith in
    both word (word / 2) (place + j) (ones_at word place j e (omega arith))
    (shifted_bit word 1 (place + j) ∙ ap (bit_at word) above ∙ ones_at word place (j + 1) e (omega arith))

fours_at : (word place j : ℕ) → word / 2 ^ place % 256 ≡ 255 → j < 5 → bit_at (fours word) (place + j) ≡ 1
unfolding fours
fours_at word place j e h =
    let above : 2 + (place + j) ≡ place + (j + 2) = omega arith in
    both (pairs word) (pairs word / 4) (place + j) (pairs_at word place j e (omega arith))
    (shifted_bit (pairs word) 2 (place + j) ∙ ap (bit_at (pairs word)) above ∙ pairs_at word place (j + 2) e (omega arith))

eights_at : (word place : ℕ) → word / 2 ^ place % 256 ≡ 255 → bit_at (eights word) place ≡ 1
unfolding eights
eights_at word place e =
    let here : place + 0 ≡ place = omega arith in
    let above : 4 + place ≡ place + 4 = omega arith in
    both (fours word) (fours word / 16) place (sym (ap (bit_at (fours word)) here) ∙ fours_at word place 0 e (omega arith))
    (shifted_bit (fours word) 4 place ∙ ap (bit_at (fours word)) above ∙ fours_at word place 4 e (omega arith))

-- a mask with a one at the place of a byte sees that it isn't FF
not_ff : (word mask place : ℕ) → bit_at mask place ≡ 1 → bit_and (eights word) mask ≡ 0 → word / 2 ^ place % 256 ≡ 255 → ⊥
not_ff word mask place at none e =
    let one : bit_at (bit_and (eights word) mask) place ≡ 1 = both (eights word) mask place (eights_at word place e) at in
    let zero : bit_at (bit_and (eights word) mask) place ≡ 0 = ap (λ n. bit_at n place) none ∙ bit_at-zero place in
    absurd (omega (arith, one, zero))

none_of : (word : ℕ) → bit_and (eights word) 72340172838076673 ≡ 0 → HasNoFf word
none_of word none = record {
  at_56 = not_ff word 72340172838076673 56 refl none;
  at_48 = not_ff word 72340172838076673 48 refl none;
  at_40 = not_ff word 72340172838076673 40 refl none;
  at_32 = not_ff word 72340172838076673 32 refl none;
  at_24 = not_ff word 72340172838076673 24 refl none;
  at_16 = not_ff word 72340172838076673 16 refl none;
  at_8 = not_ff word 72340172838076673 8 refl none;
  at_0 = not_ff word 72340172838076673 0 refl none;
}

pub no_ff : (word : ℕ) → not (eqb (bit_and (bit_and (bit_and (bit_and word (word / 2)) (bit_and word (word / 2) / 4)) (bit_and (bit_and word (word / 2)) (bit_and word (word / 2) / 4) / 16)) 72340172838076673) 0) ≡ false
    → HasNoFf word
unfolding pairs fours eights
no_ff word h = none_of word (eqb-true _ _ (not-false _ h))
