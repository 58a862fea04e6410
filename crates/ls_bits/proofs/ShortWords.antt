-- A short word, taken out of a window.
use Rattle.std.proofs.Common.{◌≡◌, ℕ, suc, ◌+◌, ◌-◌, ◌*◌, ◌/◌, ◌%◌, ◌^◌, ◌<◌, ◌≤◌, Bool, true, List, ◌∷◌, ◌++◌, sym, ◌∙◌, ap, subst, arith}
use Rattle.std.proofs.Math.Nat.{pow-le-pow_right, mul-add-div_right}
use Rattle.ls_bits.specs.Bits.{bits_of, zeros as zero_bits, number_of}
use Rattle.ls_bits.proofs.BitLemmas.{bits_of-word, bits_of-mod, number_of-bits_of-small}
use Rattle.ls_bits.specs.Golomb.{short_word}
use Rattle.ls_bits.specs.View.Packing.{bits_left}
use Rattle.ls_bits.specs.View.Taking.{LeadingZeros, found, none}
use Rattle.ls_bits.proofs.WindowLemmas.{one-taken, bits_left-take}
use Rattle.ls_bits.proofs.GolombLaws.{short_parts}
use Rattle.std.proofs.lemmas.Nat.{mod_below, pow_pos, pow-add, div_below, mod_low}

pub record IsShort (k held zeros value : ℕ) (word : ℕ) (after_ff : Bool) (rest : List ℕ) : Type 0 where
  pub taken : bits_left word held after_ff rest ≡ short_word k value ++ bits_left word (held - (zeros + 1) - k) after_ff rest
  pub high : value / 2 ^ k ≡ zeros

pub short-taken : (k word held zeros low value : ℕ) (after_ff : Bool) (rest : List ℕ) → LeadingZeros held word zeros → zeros + 1 + k ≤ held
    → low ≡ word / 2 ^ (held - (zeros + 1) - k) % 2 ^ k → value ≡ zeros * 2 ^ k + low
    → IsShort k held zeros value word after_ff rest
short-taken k word held zeros low value after_ff rest zeros_are room low_is value_is =
    let below : low < 2 ^ k = subst (λ n. n < 2 ^ k) (sym low_is) (mod_below (word / 2 ^ (held - (zeros + 1) - k)) (2 ^ k) (pow_pos k)) in
    let parts = short_parts k zeros low (bits_left word held after_ff rest) (bits_left word (held - (zeros + 1)) after_ff rest) (bits_left word (held - (zeros + 1) - k) after_ff rest)
    (one-taken word held zeros after_ff rest zeros_are (omega arith))
    (bits_left-take word (held - (zeros + 1)) k low after_ff rest (omega arith) low_is) below in
    record {
      taken = parts.1 ∙ ap (λ n. short_word k n ++ bits_left word (held - (zeros + 1) - k) after_ff rest) (sym value_is);
      high = ap (λ n. n / 2 ^ k) value_is ∙ parts.0;
    }

-- the 1 after the leading zeros is the top bit above what follows it
pub one_on_top : (word count k : ℕ) → word < 2 ^ 64 → LeadingZeros 64 word count → count + k < 64
    → word / 2 ^ (63 - count - k) ≡ 2 ^ k + word / 2 ^ (63 - count - k) % 2 ^ k
one_on_top word count k small (found less bits) room =
    let place : ℕ = 63 - count in
    let left : ℕ = 63 - count - k in
    let rest : ℕ = word % 2 ^ place in
    let rest_small : rest < 2 ^ place = mod_below word (2 ^ place) (pow_pos place) in
    let few : 2 ^ place ≤ 2 ^ 63 = pow-le-pow_right {n = 2} (omega arith) {i = place} {j = 63} (omega arith) in
    let width : count + suc place ≡ 64 = omega arith in
    let after : 64 - (count + 1) ≡ place = omega arith in
    let same : bits_of 64 (2 ^ place + rest) ≡ bits_of 64 word =
    sym (ap (λ n. bits_of n (2 ^ place + rest)) width) ∙ bits_of-word count place rest rest_small
    ∙ ap (λ tail. zero_bits count ++ true ∷ tail) (bits_of-mod place place word (omega arith) ∙ sym (ap (λ n. bits_of n word) after)) ∙ sym bits in
    let is : word ≡ 2 ^ place + rest =
    sym (number_of-bits_of-small 64 word small) ∙ ap number_of (sym same) ∙ number_of-bits_of-small 64 (2 ^ place + rest) (omega (arith, few, rest_small)) in
    let parts : place ≡ k + left = omega arith in
    let power : 2 ^ place ≡ 2 ^ k * 2 ^ left = ap (λ n. 2 ^ n) parts ∙ pow-add 2 k left in
    let low : ℕ = rest / 2 ^ left in
    let low_small : low < 2 ^ k = div_below rest (2 ^ left) (2 ^ k) (pow_pos left) (subst (λ n. rest < n) power rest_small) in
    let top : word / 2 ^ left ≡ 2 ^ k + low = ap (λ n. n / 2 ^ left) (is ∙ ap (λ n. n + rest) power) ∙ mul-add-div_right (pow_pos left) (2 ^ k) rest in
    let once : 2 ^ k + low ≡ 1 * 2 ^ k + low = omega arith in
    let lowest : word / 2 ^ left % 2 ^ k ≡ low = ap (λ n. n % 2 ^ k) (top ∙ once) ∙ mod_low 1 k low low_small in
    top ∙ ap (λ n. 2 ^ k + n) (sym lowest)
one_on_top word count k small (none more bits) room = absurd (omega arith)
