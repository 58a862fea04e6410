-- Numbers in bits.
use Rattle.std.proofs.Common.{◌≡◌, ℕ, zero, suc, ◌+◌, ◌-◌, ◌*◌, ◌/◌, ◌%◌, ◌^◌, ◌<◌, ◌≤◌, Bool, true, false, eqb, List, [], ◌∷◌, ◌++◌, length, refl, sym, ◌∙◌, ap, subst, arith, inl, inr, zero-add, length-append}
use Rattle.std.proofs.lemmas.List.{length-replicate}
use Rattle.std.proofs.lemmas.Nat.{pow_pos, shr_split, mod-pow-add, pow-add, mod_low, or_shifted, mod_below, shl-shr, shl_below, shr_below, le-div, leading_top}
use Rattle.std.proofs.lemmas.Bool.{cases_lt}
use Rattle.std.proofs.Math.Pow.{pow_mono}
use Rattle.std.proofs.lemmas.Nat.Bits.{bit_at_cat_low, bit_at_cat_high, bit_at-zero}
use Rattle.std.proofs.Math.Nat.{pow-suc, mod-eq_of_lt}
use Rattle.std.specs.Int.{bit_at}
use lib.Bits.{bit_or}
use lib.Count.{count_leading_zeros}
use Rattle.ls_bits.specs.Bits.{has_bit, bits_of, bit_value, number_of, zeros}
use Rattle.ls_bits.specs.View.Taking.{LeadingZeros, found, none}

pub length-bits_of : (count n : ℕ) → length (bits_of count n) ≡ count
length-bits_of zero n = refl
length-bits_of (suc count) n = ap suc (length-bits_of count n)

pub length-zeros : (count : ℕ) → length (zeros count) ≡ count
length-zeros count = length-replicate count false

-- only the low bits count
pub bits_of-low : (count shift a b : ℕ) → count ≤ shift → bits_of count (a * 2 ^ shift + b) ≡ bits_of count b
bits_of-low zero shift a b h = refl
bits_of-low (suc count) shift a b h =
    let first : has_bit (a * 2 ^ shift + b) count ≡ has_bit b count = ap (λ x. eqb x 1) (bit_at_cat_low a shift b count (omega arith)) in
    let others : bits_of count (a * 2 ^ shift + b) ≡ bits_of count b = bits_of-low count shift a b (omega arith) in
    cc

-- two numbers side by side
pub bits_of-cat : (high low a b : ℕ) → b < 2 ^ low → bits_of (high + low) (a * 2 ^ low + b) ≡ bits_of high a ++ bits_of low b
bits_of-cat zero low a b h = rw zero-add (bits_of-low low low a b (omega arith))
bits_of-cat (suc high) low a b h =
    let e : suc high + low ≡ suc (high + low) = omega arith in
    let place : high + low - low ≡ high = omega arith in
    let at : bit_at (a * 2 ^ low + b) (high + low) ≡ bit_at a (high + low - low) = bit_at_cat_high a low b (high + low) h (omega arith) in
    let first : has_bit (a * 2 ^ low + b) (high + low) ≡ has_bit a high = ap (λ x. eqb x 1) (at ∙ ap (λ i. bit_at a i) place) in
    let others : bits_of (high + low) (a * 2 ^ low + b) ≡ bits_of high a ++ bits_of low b = bits_of-cat high low a b h in
    rw e (cc)

pub bits_of-mod : (count width n : ℕ) → count ≤ width → bits_of count (n % 2 ^ width) ≡ bits_of count n
bits_of-mod count width n h =
    sym (bits_of-low count width (n / 2 ^ width) (n % 2 ^ width) h) ∙ ap (bits_of count) (shr_split n width)

-- the bits of a number in two parts
pub bits_of-split : (high low n : ℕ) → bits_of (high + low) n ≡ bits_of high (n / 2 ^ low) ++ bits_of low n
bits_of-split high low n =
    let positive : 0 < 2 ^ low = pow_pos low in
    let whole : bits_of (high + low) (n / 2 ^ low * 2 ^ low + n % 2 ^ low) ≡ bits_of high (n / 2 ^ low) ++ bits_of low (n % 2 ^ low) =
    bits_of-cat high low (n / 2 ^ low) (n % 2 ^ low) (mod_below n (2 ^ low) positive) in
    let same : n / 2 ^ low * 2 ^ low + n % 2 ^ low ≡ n = shr_split n low in
    let below : bits_of low (n % 2 ^ low) ≡ bits_of low n = bits_of-mod low low n (omega arith) in
    sym (ap (bits_of (high + low)) same) ∙ whole ∙ ap (λ bits. bits_of high (n / 2 ^ low) ++ bits) below

-- the bits that a shift to the left keeps
pub shifted_left : (count keep width word : ℕ) → keep + count ≡ width → word * 2 ^ count % 2 ^ width ≡ word % 2 ^ keep * 2 ^ count
shifted_left count keep width word e =
    let parts : word * 2 ^ count % 2 ^ (keep + count) ≡ word * 2 ^ count / 2 ^ count % 2 ^ keep * 2 ^ count + word * 2 ^ count % 2 ^ count =
    mod-pow-add (word * 2 ^ count) keep count in
    let back : word * 2 ^ count / 2 ^ count ≡ word = shl-shr word count in
    let low : (word * 2 ^ count + 0) % 2 ^ count ≡ 0 = mod_low word count 0 (pow_pos count) in
    let plain : word * 2 ^ count + 0 ≡ word * 2 ^ count = omega arith in
    let none : word * 2 ^ count % 2 ^ count ≡ 0 = sym (ap (λ n. n % 2 ^ count) plain) ∙ low in
    let high : word * 2 ^ count / 2 ^ count % 2 ^ keep * 2 ^ count ≡ word % 2 ^ keep * 2 ^ count = ap (λ n. n % 2 ^ keep * 2 ^ count) back in
    let whole : word * 2 ^ count % 2 ^ width ≡ word * 2 ^ count % 2 ^ (keep + count) = ap (λ n. word * 2 ^ count % 2 ^ n) (sym e) in
    omega (arith, whole, parts, high, none)

-- the bits of a 64-bit word after a value is shifted in from below
pub shifted_in : (held count word value : ℕ) → held + count ≤ 64 → value < 2 ^ count
    → bits_of (held + count) (bit_or (word * 2 ^ count % 2 ^ 64) value) ≡ bits_of held word ++ bits_of count value
shifted_in held count word value fits small =
    let sum : (64 - count) + count ≡ 64 = omega arith in
    let high : ℕ = word % 2 ^ (64 - count) in
    let positive : 0 < 2 ^ count = pow_pos count in
    let shifted : word * 2 ^ count % 2 ^ 64 ≡ high * 2 ^ count = shifted_left count (64 - count) 64 word sum in
    let joined : bit_or (high * 2 ^ count) value ≡ high * 2 ^ count + value = or_shifted high count value small in
    let upper : bits_of held high ≡ bits_of held word = bits_of-mod held (64 - count) word (omega arith) in
    rw (shifted, joined, bits_of-cat held count high value small, upper) refl

-- ---- bits as a number

pub bit_value-eqb : (n : ℕ) → n < 2 → bit_value (eqb n 1) ≡ n
bit_value-eqb zero h = refl
bit_value-eqb (suc zero) h = refl
bit_value-eqb (suc (suc n)) h = absurd (omega arith)

pub number_of-bits_of : (count n : ℕ) → number_of (bits_of count n) ≡ n % 2 ^ count
number_of-bits_of zero n = omega arith
number_of-bits_of (suc count) n =
    let top : bit_value (has_bit n count) ≡ n / 2 ^ count % 2 = bit_value-eqb (n / 2 ^ count % 2) (omega arith) in
    let size : length (bits_of count n) ≡ count = length-bits_of count n in
    let low : number_of (bits_of count n) ≡ n % 2 ^ count = number_of-bits_of count n in
    let parts : n % 2 ^ (1 + count) ≡ n / 2 ^ count % 2 ^ 1 * 2 ^ count + n % 2 ^ count = mod-pow-add n 1 count in
    let same : 1 + count ≡ suc count = omega arith in
    let whole : n % 2 ^ suc count ≡ n / 2 ^ count % 2 * 2 ^ count + n % 2 ^ count = sym (ap (λ k. n % 2 ^ k) same) ∙ parts in
    rw (top, size, low) (sym whole)

pub number_of-bits_of-small : (count n : ℕ) → n < 2 ^ count → number_of (bits_of count n) ≡ n
number_of-bits_of-small count n h = number_of-bits_of count n ∙ mod-eq_of_lt h

pub number_of-lt : (bits : List Bool) → number_of bits < 2 ^ length bits
number_of-lt [] = omega arith
number_of-lt (false ∷ bits) =
    let below : number_of bits < 2 ^ length bits = number_of-lt bits in
    let doubled : 2 ^ suc (length bits) ≡ 2 ^ length bits * 2 = pow-suc 2 (length bits) in
    omega arith
number_of-lt (true ∷ bits) =
    let below : number_of bits < 2 ^ length bits = number_of-lt bits in
    let doubled : 2 ^ suc (length bits) ≡ 2 ^ length bits * 2 = pow-suc 2 (length bits) in
    omega arith

top_bit : (bit : Bool) (count rest : ℕ) → rest < 2 ^ count → has_bit (bit_value bit * 2 ^ count + rest) count ≡ bit
top_bit false count rest h =
    let at : bit_at (0 * 2 ^ count + rest) count ≡ bit_at 0 (count - count) = bit_at_cat_high 0 count rest count h (omega arith) in
    ap (λ n. eqb n 1) (at ∙ bit_at-zero (count - count))
top_bit true count rest h =
    let at : bit_at (1 * 2 ^ count + rest) count ≡ bit_at 1 (count - count) = bit_at_cat_high 1 count rest count h (omega arith) in
    let place : count - count ≡ 0 = omega arith in
    let one : bit_at 1 (count - count) ≡ 1 = ap (λ i. bit_at 1 i) place in
    ap (λ n. eqb n 1) (at ∙ one)

pub bits_of-number_of : (bits : List Bool) → bits_of (length bits) (number_of bits) ≡ bits
bits_of-number_of [] = refl
bits_of-number_of (bit ∷ bits) =
    let first : has_bit (bit_value bit * 2 ^ length bits + number_of bits) (length bits) ≡ bit = top_bit bit (length bits) (number_of bits) (number_of-lt bits) in
    let low : bits_of (length bits) (bit_value bit * 2 ^ length bits + number_of bits) ≡ bits_of (length bits) (number_of bits) =
    bits_of-low (length bits) (length bits) (bit_value bit) (number_of bits) (omega arith) in
    let others : bits_of (length bits) (number_of bits) ≡ bits = bits_of-number_of bits in
    cc

number_of-zeros : (count : ℕ) → number_of (zeros count) ≡ 0
number_of-zeros zero = refl
number_of-zeros (suc count) = omega (arith, number_of-zeros count)

-- zeros after bits shift their number
pub number_of-filled : (bits : List Bool) (count : ℕ) → number_of (bits ++ zeros count) ≡ number_of bits * 2 ^ count
number_of-filled [] count = omega (arith, number_of-zeros count)
number_of-filled (bit ∷ bits) count =
    let others : number_of (bits ++ zeros count) ≡ number_of bits * 2 ^ count = number_of-filled bits count in
    let size : length (bits ++ zeros count) ≡ length bits + count = length-append bits (zeros count) ∙ ap (λ n. length bits + n) (length-zeros count) in
    let power : 2 ^ (length bits + count) ≡ 2 ^ length bits * 2 ^ count = pow-add 2 (length bits) count in
    rw (size, others, power) (grind arith)

-- ---- words

pub bits_of-zero : (count : ℕ) → bits_of count 0 ≡ zeros count
bits_of-zero zero = refl
bits_of-zero (suc count) =
    let first : has_bit 0 count ≡ false = ap (λ n. eqb n 1) (bit_at-zero count) in
    let others : bits_of count 0 ≡ zeros count = bits_of-zero count in
    cc

one_on_top : (low rest : ℕ) → rest < 2 ^ low → bits_of (suc low) (2 ^ low + rest) ≡ true ∷ bits_of low rest
one_on_top low rest h =
    let same : 1 * 2 ^ low + rest ≡ 2 ^ low + rest = omega arith in
    let first : has_bit (1 * 2 ^ low + rest) low ≡ true = top_bit true low rest h in
    let others : bits_of low (1 * 2 ^ low + rest) ≡ bits_of low rest = bits_of-low low low 1 rest (omega arith) in
    let whole : bits_of (suc low) (1 * 2 ^ low + rest) ≡ true ∷ bits_of low rest = cc in
    sym (ap (bits_of (suc low)) same) ∙ whole

-- `count` zeros, a one, and a number in bits
pub bits_of-word : (count low rest : ℕ) → rest < 2 ^ low → bits_of (count + suc low) (2 ^ low + rest) ≡ zeros count ++ true ∷ bits_of low rest
bits_of-word count low rest h =
    let doubled : 2 ^ suc low ≡ 2 ^ low * 2 = pow-suc 2 low in
    let tail : bits_of (count + suc low) (0 * 2 ^ suc low + (2 ^ low + rest)) ≡ bits_of count 0 ++ bits_of (suc low) (2 ^ low + rest) =
    bits_of-cat count (suc low) 0 (2 ^ low + rest) (omega arith) in
    let same : 0 * 2 ^ suc low + (2 ^ low + rest) ≡ 2 ^ low + rest = omega arith in
    let one : bits_of (suc low) (2 ^ low + rest) ≡ true ∷ bits_of low rest = one_on_top low rest h in
    sym (ap (bits_of (count + suc low)) same) ∙ tail ∙ rw (bits_of-zero count, one) refl

-- the first one of a number, and the bits after it
pub bits_of-first_one : (count place n : ℕ) → 2 ^ place ≤ n → n < 2 ^ suc place → bits_of (count + suc place) n ≡ zeros count ++ true ∷ bits_of place n
bits_of-first_one count place n low high =
    let doubled : 2 ^ suc place ≡ 2 ^ place * 2 = pow-suc 2 place in
    let rest : ℕ = n - 2 ^ place in
    let parts : 2 ^ place + rest ≡ n = omega arith in
    let word : bits_of (count + suc place) (2 ^ place + rest) ≡ zeros count ++ true ∷ bits_of place rest = bits_of-word count place rest (omega arith) in
    let scaled : 1 * 2 ^ place + rest ≡ n = omega arith in
    let rest_bits : bits_of place (1 * 2 ^ place + rest) ≡ bits_of place rest = bits_of-low place place 1 rest (omega arith) in
    let rest_n : bits_of place n ≡ bits_of place rest = sym (ap (bits_of place) scaled) ∙ rest_bits in
    sym (ap (bits_of (count + suc place)) parts) ∙ word ∙ rw rest_n refl

mul_at_least : (a b : ℕ) → 1 ≤ a → b ≤ a * b
mul_at_least a b h = grind arith

-- the highest one of a number of at least 2 ^ shift is at bit `shift` or above
above_shift : (shift place n : ℕ) → 2 ^ shift ≤ n → n < 2 ^ suc place → shift ≤ place
above_shift shift place n low high = elim (cases_lt place shift) [
  | inl below ↦ let grown : 2 ^ suc place ≤ 2 ^ shift = pow_mono below in absurd (omega arith)
  | inr above ↦ above
]

no_ones : count_leading_zeros 64 0 ≡ 64
unfolding count_leading_zeros
no_ones = refl

first_one_of : (held word low count : ℕ) → 1 ≤ held → held ≤ 64 → low ≡ word % 2 ^ held → count ≡ count_leading_zeros 64 (low * 2 ^ (64 - held)) → LeadingZeros held word count
first_one_of held word zero count some most e counted =
    let nothing : 0 * 2 ^ (64 - held) ≡ 0 = omega arith in
    let all : count ≡ 64 = counted ∙ ap (count_leading_zeros 64) nothing ∙ no_ones in
    none (omega arith) (sym (bits_of-mod held held word (omega arith)) ∙ ap (bits_of held) (sym e) ∙ bits_of-zero held)
first_one_of held word (suc low) count some most e counted =
    let shift : ℕ = 64 - held in
    let small : suc low < 2 ^ held = subst (λ n. n < 2 ^ held) (sym e) (mod_below word (2 ^ held) (pow_pos held)) in
    let shifted : ℕ = suc low * 2 ^ shift in
    let sum : held + shift ≡ 64 = omega arith in
    let below : shifted < 2 ^ 64 = subst (λ n. shifted < 2 ^ n) sum (shl_below (suc low) held shift small) in
    let positive : 0 < 2 ^ shift = pow_pos shift in
    let least : 2 ^ shift ≤ shifted = mul_at_least (suc low) (2 ^ shift) (omega arith) in
    let top = leading_top 64 shifted (omega arith) below in
    let place : ℕ = top.0 in
    let counted_place : count + suc place ≡ 64 = ap (λ n. n + suc place) counted ∙ top.1 in
    let high_enough : shift ≤ place = above_shift shift place shifted least top.3 in
    let at : ℕ = place - shift in
    let split : at + shift ≡ place = omega arith in
    let back : shifted / 2 ^ shift ≡ suc low = shl-shr (suc low) shift in
    let power : 2 ^ place ≡ 2 ^ at * 2 ^ shift = ap (λ n. 2 ^ n) (sym split) ∙ pow-add 2 at shift in
    let lower : 2 ^ at ≤ suc low = subst (λ n. 2 ^ at ≤ n) back (le-div (2 ^ at) shifted (2 ^ shift) positive (omega (arith, top.2))) in
    let suc_split : suc at + shift ≡ suc place = omega arith in
    let upper : suc low < 2 ^ suc at = subst (λ n. n < 2 ^ suc at) back (shr_below shifted (suc at) shift (subst (λ n. shifted < 2 ^ n) (sym suc_split) top.3)) in
    let parts : count + suc at ≡ held = omega arith in
    let of_low : bits_of held word ≡ bits_of held (suc low) = sym (bits_of-mod held held word (omega arith)) ∙ ap (bits_of held) (sym e) in
    let word_of : bits_of (count + suc at) (suc low) ≡ zeros count ++ true ∷ bits_of at (suc low) = bits_of-first_one count at (suc low) lower upper in
    let rest : bits_of at (suc low) ≡ bits_of at word = ap (bits_of at) e ∙ bits_of-mod at held word (omega arith) in
    let place_of : at ≡ held - (count + 1) = omega arith in
    found (omega arith)
    (of_low ∙ sym (ap (λ n. bits_of n (suc low)) parts) ∙ word_of ∙ ap (λ bits. zeros count ++ true ∷ bits) (rest ∙ ap (λ n. bits_of n word) place_of))

pub first_one : (held word count : ℕ) → 1 ≤ held → held ≤ 64 → count ≡ count_leading_zeros 64 (word * 2 ^ (64 - held) % 2 ^ 64) → LeadingZeros held word count
first_one held word count some most counted =
    let sum : held + (64 - held) ≡ 64 = omega arith in
    let shifted : word * 2 ^ (64 - held) % 2 ^ 64 ≡ word % 2 ^ held * 2 ^ (64 - held) = shifted_left (64 - held) held 64 word sum in
    first_one_of held word (word % 2 ^ held) count some most refl (counted ∙ ap (count_leading_zeros 64) shifted)
