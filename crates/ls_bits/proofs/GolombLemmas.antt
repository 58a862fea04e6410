-- Code words.
use Rattle.std.proofs.Common.{◌≡◌, ℕ, ◌+◌, ◌-◌, ◌/◌, ◌%◌, ◌^◌, ◌<◌, ◌≤◌, inl, inr, true, ◌∷◌, ◌++◌, length, ◌∙◌, ap, arith, length-append}
use Rattle.std.proofs.lemmas.Bool.{lt-ltb, le-ltb, cases_lt, cond-true, cond-false}
use Rattle.ls_bits.specs.Bits.{bits_of, zeros}
use Rattle.ls_bits.specs.Golomb.{IsGolomb, escape_zeros, short_word, escape_word, code_word}
use Rattle.ls_bits.proofs.BitLemmas.{bits_of-mod, length-bits_of, length-zeros}

pub code_word-small : (k glimit qbpp v : ℕ) → v / 2 ^ k < escape_zeros glimit qbpp → code_word k glimit qbpp v ≡ short_word k v
unfolding code_word
code_word-small k glimit qbpp v h = cond-true _ _ _ (lt-ltb (v / 2 ^ k) (escape_zeros glimit qbpp) h)

pub code_word-escape : (k glimit qbpp v : ℕ) → escape_zeros glimit qbpp ≤ v / 2 ^ k → code_word k glimit qbpp v ≡ escape_word glimit qbpp v
unfolding code_word
code_word-escape k glimit qbpp v h = cond-false _ _ _ (le-ltb (v / 2 ^ k) (escape_zeros glimit qbpp) h)

length-word : (count low v : ℕ) → length (zeros count ++ true ∷ bits_of low v) ≡ count + 1 + low
length-word count low v = omega (arith, length-append (zeros count) (true ∷ bits_of low v), length-zeros count, length-bits_of low v)

pub length-short : (k glimit qbpp v : ℕ) → v / 2 ^ k < escape_zeros glimit qbpp → length (code_word k glimit qbpp v) ≡ v / 2 ^ k + 1 + k
length-short k glimit qbpp v h = ap length (code_word-small k glimit qbpp v h) ∙ length-word (v / 2 ^ k) k v

pub length-escape : (k glimit qbpp v : ℕ) → escape_zeros glimit qbpp ≤ v / 2 ^ k → length (code_word k glimit qbpp v) ≡ escape_zeros glimit qbpp + 1 + qbpp
length-escape k glimit qbpp v h = ap length (code_word-escape k glimit qbpp v h) ∙ length-word (escape_zeros glimit qbpp) qbpp (v - 1)

-- a short word by the low bits alone
pub short_word-low : (k v : ℕ) → zeros (v / 2 ^ k) ++ true ∷ bits_of k (v % 2 ^ k) ≡ short_word k v
short_word-low k v = ap (λ bits. zeros (v / 2 ^ k) ++ true ∷ bits) (bits_of-mod k k v (omega arith))

-- no word is longer than the limit
pub length-code_word : (k glimit qbpp v : ℕ) → IsGolomb k glimit qbpp → length (code_word k glimit qbpp v) ≤ glimit
length-code_word k glimit qbpp v code = elim (cases_lt (v / 2 ^ k) (escape_zeros glimit qbpp)) [
  | inl small ↦ omega (arith, length-short k glimit qbpp v small, code.some_zeros, code.small_k)
  | inr large ↦ omega (arith, length-escape k glimit qbpp v large, code.some_zeros)
]
