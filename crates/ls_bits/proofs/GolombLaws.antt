-- Bits can be read as a code word in at most one way.
use Rattle.std.proofs.Common.{◌≡◌, ℕ, zero, suc, ◌+◌, ◌-◌, ◌*◌, ◌/◌, ◌%◌, ◌^◌, ◌<◌, ◌≤◌, inl, inr, Bool, true, Result, Ok, Err, IfOk, IfErr, List, ◌∷◌, ◌++◌, length, take, drop, refl, sym, ◌∙◌, ap, subst, arith, append_assoc, length-append}
use Rattle.std.proofs.lemmas.List.{take_at, drop_at}
use Rattle.std.proofs.lemmas.Bool.{cases_lt}
use Rattle.std.proofs.lemmas.Nat.{shr_split, shr_high}
use Rattle.std.proofs.Math.Nat.{mod-eq_of_lt, zero-div}
use Rattle.ls_bits.specs.declared.source.CodeFault.{CodeFault}
use Rattle.ls_bits.specs.declared.source.CodeFault.TheVariants.{OutOfBits, NotCanonical}
use Rattle.ls_bits.specs.Bits.{bits_of, number_of, zeros, BeginsWith}
use Rattle.ls_bits.specs.View.Taking.{ZerosFault}
use Rattle.ls_bits.specs.Golomb.{IsGolomb, most_value, escape_zeros, short_word, escape_word, code_word, IsUncanonical, zeros_only, needless_escape, too_large, TakesWord, GolombFault}
use Rattle.ls_bits.proofs.BitLemmas.{length-bits_of, length-zeros, number_of-bits_of, bits_of-low}
use Rattle.ls_bits.proofs.GolombLemmas.{code_word-small, code_word-escape}

-- ---- one reading

append_split : (n : ℕ) (p q x y : List Bool) → length p ≡ n → length q ≡ n → p ++ x ≡ q ++ y → (p ≡ q) × (x ≡ y)
append_split n p q x y a b e =
    (sym (take_at p x n a) ∙ ap (take n) e ∙ take_at q y n b, sym (drop_at p x n a) ∙ ap (drop n) e ∙ drop_at q y n b)

-- the number of zeros before the first one is unique
zeros_unique : (a b : ℕ) (x y : List Bool) → zeros a ++ true ∷ x ≡ zeros b ++ true ∷ y → (a ≡ b) × (x ≡ y)
zeros_unique zero zero x y e = (refl, cc)
zeros_unique zero (suc b) x y e = absurd (cc)
zeros_unique (suc a) zero x y e = absurd (cc)
zeros_unique (suc a) (suc b) x y e =
    let rest : zeros a ++ true ∷ x ≡ zeros b ++ true ∷ y = cc in
    let more = zeros_unique a b x y rest in
    (ap suc more.0, more.1)

-- and no more zeros can be in front
zeros_most : (a b : ℕ) (x y : List Bool) → zeros a ++ true ∷ x ≡ zeros b ++ y → b ≤ a
zeros_most a zero x y e = omega arith
zeros_most zero (suc b) x y e = absurd (cc)
zeros_most (suc a) (suc b) x y e =
    let rest : zeros a ++ true ∷ x ≡ zeros b ++ y = cc in
    omega (arith, zeros_most a b x y rest)

-- zeros alone contain no one
zeros_alone : (a b : ℕ) (x : List Bool) → zeros a ++ true ∷ x ≡ zeros b → ⊥
zeros_alone a zero x e = absurd (omega (arith, ap length e, length-append (zeros a) (true ∷ x)))
zeros_alone zero (suc b) x e = cc
zeros_alone (suc a) (suc b) x e = let rest : zeros a ++ true ∷ x ≡ zeros b = cc in zeros_alone a b x rest

-- the same bits, the same low part
pub same_low : (count a b : ℕ) (x y : List Bool) → bits_of count a ++ x ≡ bits_of count b ++ y → (a % 2 ^ count ≡ b % 2 ^ count) × (x ≡ y)
same_low count a b x y e =
    let parts = append_split count (bits_of count a) (bits_of count b) x y (length-bits_of count a) (length-bits_of count b) e in
    (sym (number_of-bits_of count a) ∙ ap number_of parts.0 ∙ number_of-bits_of count b, parts.1)

same_number : (k a b : ℕ) → a / 2 ^ k ≡ b / 2 ^ k → a % 2 ^ k ≡ b % 2 ^ k → a ≡ b
same_number k a b high low =
    sym (shr_split a k) ∙ ap (λ n. n * 2 ^ k + a % 2 ^ k) high ∙ ap (λ n. b / 2 ^ k * 2 ^ k + n) low ∙ shr_split b k

-- ---- the two forms of a word

pub data Form (k glimit qbpp : ℕ) (bits : List Bool) (v : ℕ) (rest : List Bool) : Type 0 where
  short : v / 2 ^ k < escape_zeros glimit qbpp → bits ≡ zeros (v / 2 ^ k) ++ true ∷ (bits_of k v ++ rest) → Form k glimit qbpp bits v rest
  escaped : escape_zeros glimit qbpp ≤ v / 2 ^ k → bits ≡ zeros (escape_zeros glimit qbpp) ++ true ∷ (bits_of qbpp (v - 1) ++ rest) → Form k glimit qbpp bits v rest

pub form_of : (k glimit qbpp : ℕ) (bits : List Bool) (v : ℕ) (rest : List Bool) → bits ≡ code_word k glimit qbpp v ++ rest → Form k glimit qbpp bits v rest
form_of k glimit qbpp bits v rest e = elim (cases_lt (v / 2 ^ k) (escape_zeros glimit qbpp)) [
  | inl small ↦ short small (e ∙ ap (λ word. word ++ rest) (code_word-small k glimit qbpp v small) ∙ append_assoc (zeros (v / 2 ^ k)) (true ∷ bits_of k v) rest)
  | inr large ↦ escaped large (e ∙ ap (λ word. word ++ rest) (code_word-escape k glimit qbpp v large)
      ∙ append_assoc (zeros (escape_zeros glimit qbpp)) (true ∷ bits_of qbpp (v - 1)) rest)
]

-- an escaped value isn't 0
some_value : (k glimit qbpp v : ℕ) → IsGolomb k glimit qbpp → escape_zeros glimit qbpp ≤ v / 2 ^ k → 1 ≤ v
some_value k glimit qbpp zero code h = let none : 0 / 2 ^ k ≡ 0 = zero-div (2 ^ k) in absurd (omega (arith, code.some_zeros))
some_value k glimit qbpp (suc v) code h = omega arith

same_escaped : (qbpp v w : ℕ) → 1 ≤ v → 1 ≤ w → v ≤ most_value qbpp → w ≤ most_value qbpp → (v - 1) % 2 ^ qbpp ≡ (w - 1) % 2 ^ qbpp → v ≡ w
same_escaped qbpp v w a b c d e =
    let below_v : v - 1 < 2 ^ qbpp = omega arith in
    let below_w : w - 1 < 2 ^ qbpp = omega arith in
    let left : (v - 1) % 2 ^ qbpp ≡ v - 1 = mod-eq_of_lt below_v in
    let right : (w - 1) % 2 ^ qbpp ≡ w - 1 = mod-eq_of_lt below_w in
    omega arith

-- ---- laws

same_form : (k glimit qbpp : ℕ) (bits : List Bool) (v w : ℕ) (rest others : List Bool) → IsGolomb k glimit qbpp
    → v ≤ most_value qbpp → w ≤ most_value qbpp → Form k glimit qbpp bits v rest → Form k glimit qbpp bits w others → (v ≡ w) × (rest ≡ others)
same_form k glimit qbpp bits v w rest others code small_v small_w (short a e) (short b f) =
    let front = zeros_unique (v / 2 ^ k) (w / 2 ^ k) (bits_of k v ++ rest) (bits_of k w ++ others) (sym e ∙ f) in
    let low = same_low k v w rest others front.1 in
    (same_number k v w front.0 low.0, low.1)
same_form k glimit qbpp bits v w rest others code small_v small_w (short a e) (escaped b f) =
    let front = zeros_unique (v / 2 ^ k) (escape_zeros glimit qbpp) (bits_of k v ++ rest) (bits_of qbpp (w - 1) ++ others) (sym e ∙ f) in
    absurd (omega (arith, front.0))
same_form k glimit qbpp bits v w rest others code small_v small_w (escaped a e) (short b f) =
    let front = zeros_unique (escape_zeros glimit qbpp) (w / 2 ^ k) (bits_of qbpp (v - 1) ++ rest) (bits_of k w ++ others) (sym e ∙ f) in
    absurd (omega (arith, front.0))
same_form k glimit qbpp bits v w rest others code small_v small_w (escaped a e) (escaped b f) =
    let front = zeros_unique (escape_zeros glimit qbpp) (escape_zeros glimit qbpp) (bits_of qbpp (v - 1) ++ rest) (bits_of qbpp (w - 1) ++ others) (sym e ∙ f) in
    let low = same_low qbpp (v - 1) (w - 1) rest others front.1 in
    (same_escaped qbpp v w (some_value k glimit qbpp v code a) (some_value k glimit qbpp w code b) small_v small_w low.0, low.1)

pub same_word : (k glimit qbpp : ℕ) (bits : List Bool) (v w : ℕ) (rest others : List Bool) → IsGolomb k glimit qbpp
    → TakesWord k glimit qbpp bits v rest → TakesWord k glimit qbpp bits w others → (v ≡ w) × (rest ≡ others)
same_word k glimit qbpp bits v w rest others code one other =
    same_form k glimit qbpp bits v w rest others code one.value other.value
    (form_of k glimit qbpp bits v rest one.word) (form_of k glimit qbpp bits w others other.word)

-- a word with a needless escape, or too large a value
canonical_form : (k glimit qbpp : ℕ) (bits : List Bool) (v : ℕ) (rest : List Bool) → IsGolomb k glimit qbpp → v ≤ most_value qbpp
    → Form k glimit qbpp bits v rest → IsUncanonical k glimit qbpp bits → ⊥
canonical_form k glimit qbpp bits v rest code small (short a e) (zeros_only begins) =
    absurd (omega (arith, zeros_most (v / 2 ^ k) (glimit - qbpp) (bits_of k v ++ rest) begins.0 (sym e ∙ begins.1)))
canonical_form k glimit qbpp bits v rest code small (escaped a e) (zeros_only begins) =
    absurd (omega (arith, code.some_zeros, zeros_most (escape_zeros glimit qbpp) (glimit - qbpp) (bits_of qbpp (v - 1) ++ rest) begins.0 (sym e ∙ begins.1)))
canonical_form k glimit qbpp bits v rest code small (short a e) (needless_escape w some most low begins) =
    let front = zeros_unique (v / 2 ^ k) (escape_zeros glimit qbpp) (bits_of k v ++ rest) (bits_of qbpp (w - 1) ++ begins.0)
    (sym e ∙ begins.1 ∙ append_assoc (zeros (escape_zeros glimit qbpp)) (true ∷ bits_of qbpp (w - 1)) begins.0) in
    absurd (omega (arith, front.0))
canonical_form k glimit qbpp bits v rest code small (escaped a e) (needless_escape w some most low begins) =
    let front = zeros_unique (escape_zeros glimit qbpp) (escape_zeros glimit qbpp) (bits_of qbpp (v - 1) ++ rest) (bits_of qbpp (w - 1) ++ begins.0)
    (sym e ∙ begins.1 ∙ append_assoc (zeros (escape_zeros glimit qbpp)) (true ∷ bits_of qbpp (w - 1)) begins.0) in
    let same = same_low qbpp (v - 1) (w - 1) rest begins.0 front.1 in
    let equal : v ≡ w = same_escaped qbpp v w (some_value k glimit qbpp v code a) some small most same.0 in
    let divided : v / 2 ^ k ≡ w / 2 ^ k = ap (λ n. n / 2 ^ k) equal in
    absurd (omega arith)
canonical_form k glimit qbpp bits v rest code small (short a e) (too_large w large low begins) =
    let front = zeros_unique (v / 2 ^ k) (w / 2 ^ k) (bits_of k v ++ rest) (bits_of k w ++ begins.0)
    (sym e ∙ begins.1 ∙ append_assoc (zeros (w / 2 ^ k)) (true ∷ bits_of k w) begins.0) in
    let same = same_low k v w rest begins.0 front.1 in
    let equal : v ≡ w = same_number k v w front.0 same.0 in
    absurd (omega arith)
canonical_form k glimit qbpp bits v rest code small (escaped a e) (too_large w large low begins) =
    let front = zeros_unique (escape_zeros glimit qbpp) (w / 2 ^ k) (bits_of qbpp (v - 1) ++ rest) (bits_of k w ++ begins.0)
    (sym e ∙ begins.1 ∙ append_assoc (zeros (w / 2 ^ k)) (true ∷ bits_of k w) begins.0) in
    absurd (omega (arith, front.0))

pub canonical : (k glimit qbpp : ℕ) (bits : List Bool) (v : ℕ) (rest : List Bool) → IsGolomb k glimit qbpp
    → TakesWord k glimit qbpp bits v rest → IsUncanonical k glimit qbpp bits → ⊥
canonical k glimit qbpp bits v rest code takes un =
    canonical_form k glimit qbpp bits v rest code takes.value (form_of k glimit qbpp bits v rest takes.word) un

-- ---- what a reader finds

-- the bits begin with zeros and a one, and too few bits come after it
pub record TooFew (k glimit qbpp count : ℕ) (left : List Bool) : Type 0 where
  pub enough_zeros : count ≤ escape_zeros glimit qbpp
  pub few_short : count < escape_zeros glimit qbpp → length left < k
  pub few_escaped : escape_zeros glimit qbpp ≤ count → length left < qbpp

too_few_form : (k glimit qbpp count v : ℕ) (bits left rest : List Bool) → bits ≡ zeros count ++ true ∷ left → TooFew k glimit qbpp count left
    → Form k glimit qbpp bits v rest → ⊥
too_few_form k glimit qbpp count v bits left rest e few (short a f) =
    let front = zeros_unique count (v / 2 ^ k) left (bits_of k v ++ rest) (sym e ∙ f) in
    absurd (omega (arith, front.0, few.few_short (omega (arith, front.0)), ap length front.1, length-append (bits_of k v) rest, length-bits_of k v))
too_few_form k glimit qbpp count v bits left rest e few (escaped a f) =
    let front = zeros_unique count (escape_zeros glimit qbpp) left (bits_of qbpp (v - 1) ++ rest) (sym e ∙ f) in
    absurd (omega (arith, front.0, few.few_escaped (omega (arith, front.0)), ap length front.1, length-append (bits_of qbpp (v - 1)) rest, length-bits_of qbpp (v - 1)))

too_few_canonical : (k glimit qbpp count : ℕ) (bits left : List Bool) → bits ≡ zeros count ++ true ∷ left → TooFew k glimit qbpp count left
    → IsGolomb k glimit qbpp → IsUncanonical k glimit qbpp bits → ⊥
too_few_canonical k glimit qbpp count bits left e few code (zeros_only begins) =
    absurd (omega (arith, few.enough_zeros, code.some_zeros, zeros_most count (glimit - qbpp) left begins.0 (sym e ∙ begins.1)))
too_few_canonical k glimit qbpp count bits left e few code (needless_escape w some most low begins) =
    let front = zeros_unique count (escape_zeros glimit qbpp) left (bits_of qbpp (w - 1) ++ begins.0)
    (sym e ∙ begins.1 ∙ append_assoc (zeros (escape_zeros glimit qbpp)) (true ∷ bits_of qbpp (w - 1)) begins.0) in
    absurd (omega (arith, front.0, few.few_escaped (omega (arith, front.0)), ap length front.1, length-append (bits_of qbpp (w - 1)) begins.0, length-bits_of qbpp (w - 1)))
too_few_canonical k glimit qbpp count bits left e few code (too_large w large low begins) =
    let front = zeros_unique count (w / 2 ^ k) left (bits_of k w ++ begins.0)
    (sym e ∙ begins.1 ∙ append_assoc (zeros (w / 2 ^ k)) (true ∷ bits_of k w) begins.0) in
    absurd (omega (arith, front.0, few.few_short (omega (arith, front.0)), ap length front.1, length-append (bits_of k w) begins.0, length-bits_of k w))

pub too_few : (k glimit qbpp count : ℕ) (bits left : List Bool) → IsGolomb k glimit qbpp → bits ≡ zeros count ++ true ∷ left
    → TooFew k glimit qbpp count left → GolombFault k glimit qbpp bits OutOfBits
too_few k glimit qbpp count bits left code e few = (
  (λ v small begins. too_few_form k glimit qbpp count v bits left begins.0 e few (form_of k glimit qbpp bits v begins.0 begins.1)),
  too_few_canonical k glimit qbpp count bits left e few code,
)

-- nothing but zeros
no_form : (k glimit qbpp count v : ℕ) (bits rest : List Bool) → bits ≡ zeros count → Form k glimit qbpp bits v rest → ⊥
no_form k glimit qbpp count v bits rest e (short a f) = zeros_alone (v / 2 ^ k) count (bits_of k v ++ rest) (sym f ∙ e)
no_form k glimit qbpp count v bits rest e (escaped a f) = zeros_alone (escape_zeros glimit qbpp) count (bits_of qbpp (v - 1) ++ rest) (sym f ∙ e)

no_canonical : (k glimit qbpp count : ℕ) (bits : List Bool) → IsGolomb k glimit qbpp → bits ≡ zeros count → count ≤ escape_zeros glimit qbpp
    → IsUncanonical k glimit qbpp bits → ⊥
no_canonical k glimit qbpp count bits code e few (zeros_only begins) =
    absurd (omega (arith, code.some_zeros, ap length (sym e ∙ begins.1), length-zeros count, length-append (zeros (glimit - qbpp)) begins.0, length-zeros (glimit - qbpp)))
no_canonical k glimit qbpp count bits code e few (needless_escape w some most low begins) =
    zeros_alone (escape_zeros glimit qbpp) count (bits_of qbpp (w - 1) ++ begins.0)
    (sym (append_assoc (zeros (escape_zeros glimit qbpp)) (true ∷ bits_of qbpp (w - 1)) begins.0) ∙ sym begins.1 ∙ e)
no_canonical k glimit qbpp count bits code e few (too_large w large low begins) =
    zeros_alone (w / 2 ^ k) count (bits_of k w ++ begins.0)
    (sym (append_assoc (zeros (w / 2 ^ k)) (true ∷ bits_of k w) begins.0) ∙ sym begins.1 ∙ e)

pub zeros_fault : (k glimit qbpp : ℕ) (bits : List Bool) (fault : CodeFault) → IsGolomb k glimit qbpp
    → ZerosFault (escape_zeros glimit qbpp) bits fault → GolombFault k glimit qbpp bits fault
zeros_fault k glimit qbpp bits NotCanonical code begins =
    let same : escape_zeros glimit qbpp + 1 ≡ glimit - qbpp = omega (arith, code.some_zeros) in
    zeros_only (subst (λ n. BeginsWith (zeros n) bits) same begins)
zeros_fault k glimit qbpp bits OutOfBits code all = (
  (λ v small begins. no_form k glimit qbpp (length bits) v bits begins.0 all.0 (form_of k glimit qbpp bits v begins.0 begins.1)),
  no_canonical k glimit qbpp (length bits) bits code all.0 all.1,
)

-- zeros, a one and the low bits of a value
pub short_parts : (k count low : ℕ) (bits left rest : List Bool) → bits ≡ zeros count ++ true ∷ left → left ≡ bits_of k low ++ rest → low < 2 ^ k
    → ((count * 2 ^ k + low) / 2 ^ k ≡ count) × (bits ≡ short_word k (count * 2 ^ k + low) ++ rest)
short_parts k count low bits left rest e f small =
    let value : ℕ = count * 2 ^ k + low in
    let high : value / 2 ^ k ≡ count = shr_high count k low small in
    let tail : bits_of k value ≡ bits_of k low = bits_of-low k k count low (omega arith) in (
      high,
      e ∙ ap (λ list. zeros count ++ true ∷ list) (f ∙ ap (λ list. list ++ rest) (sym tail))
          ∙ ap (λ n. zeros n ++ true ∷ (bits_of k value ++ rest)) (sym high)
          ∙ sym (append_assoc (zeros (value / 2 ^ k)) (true ∷ bits_of k value) rest),
    )

pub short_taken : (k glimit qbpp count low : ℕ) (bits left rest : List Bool) → count < escape_zeros glimit qbpp
    → bits ≡ zeros count ++ true ∷ left → left ≡ bits_of k low ++ rest → low < 2 ^ k → count * 2 ^ k + low ≤ most_value qbpp
    → TakesWord k glimit qbpp bits (count * 2 ^ k + low) rest
short_taken k glimit qbpp count low bits left rest less e f small most =
    let parts = short_parts k count low bits left rest e f small in
    let is_less : (count * 2 ^ k + low) / 2 ^ k < escape_zeros glimit qbpp = omega (arith, parts.0) in
    record { value = most; word = parts.1 ∙ ap (λ word. word ++ rest) (sym (code_word-small k glimit qbpp (count * 2 ^ k + low) is_less)) }

pub short_too_large : (k glimit qbpp count low : ℕ) (bits left rest : List Bool) → count < escape_zeros glimit qbpp
    → bits ≡ zeros count ++ true ∷ left → left ≡ bits_of k low ++ rest → low < 2 ^ k → most_value qbpp < count * 2 ^ k + low
    → IsUncanonical k glimit qbpp bits
short_too_large k glimit qbpp count low bits left rest less e f small large =
    let parts = short_parts k count low bits left rest e f small in
    too_large (count * 2 ^ k + low) large (omega (arith, parts.0)) (rest, parts.1)

pub short_word-taken : (k glimit qbpp v : ℕ) (bits rest : List Bool) → v / 2 ^ k < escape_zeros glimit qbpp → v ≤ most_value qbpp → bits ≡ short_word k v ++ rest
    → TakesWord k glimit qbpp bits v rest
short_word-taken k glimit qbpp v bits rest less most e =
    record { value = most; word = e ∙ ap (λ word. word ++ rest) (sym (code_word-small k glimit qbpp v less)) }

escape_parts : (glimit qbpp count low : ℕ) (bits left rest : List Bool) → count ≡ escape_zeros glimit qbpp
    → bits ≡ zeros count ++ true ∷ left → left ≡ bits_of qbpp low ++ rest → bits ≡ escape_word glimit qbpp (low + 1) ++ rest
escape_parts glimit qbpp count low bits left rest same e f =
    let number : low + 1 - 1 ≡ low = omega arith in
    e ∙ ap (λ list. zeros count ++ true ∷ list) (f ∙ ap (λ n. bits_of qbpp n ++ rest) (sym number))
    ∙ ap (λ n. zeros n ++ true ∷ (bits_of qbpp (low + 1 - 1) ++ rest)) same
    ∙ sym (append_assoc (zeros (escape_zeros glimit qbpp)) (true ∷ bits_of qbpp (low + 1 - 1)) rest)

pub escape_taken : (k glimit qbpp count low : ℕ) (bits left rest : List Bool) → count ≡ escape_zeros glimit qbpp
    → bits ≡ zeros count ++ true ∷ left → left ≡ bits_of qbpp low ++ rest → low < 2 ^ qbpp → escape_zeros glimit qbpp ≤ (low + 1) / 2 ^ k
    → TakesWord k glimit qbpp bits (low + 1) rest
escape_taken k glimit qbpp count low bits left rest same e f small large =
    record {
      value = omega arith;
      word = escape_parts glimit qbpp count low bits left rest same e f ∙ ap (λ word. word ++ rest) (sym (code_word-escape k glimit qbpp (low + 1) large));
    }

pub escape_needless : (k glimit qbpp count low : ℕ) (bits left rest : List Bool) → count ≡ escape_zeros glimit qbpp
    → bits ≡ zeros count ++ true ∷ left → left ≡ bits_of qbpp low ++ rest → low < 2 ^ qbpp → (low + 1) / 2 ^ k < escape_zeros glimit qbpp
    → IsUncanonical k glimit qbpp bits
escape_needless k glimit qbpp count low bits left rest same e f small less =
    needless_escape (low + 1) (omega arith) (omega arith) less (rest, escape_parts glimit qbpp count low bits left rest same e f)

-- ---- the one answer

pub one_answer : (k glimit qbpp : ℕ) (before after : List Bool) (answer : Result ℕ CodeFault) → IsGolomb k glimit qbpp
    → IfOk answer (λ v. TakesWord k glimit qbpp before v after) → IfErr answer (λ fault. GolombFault k glimit qbpp before fault)
    → (v : ℕ) (rest : List Bool) → TakesWord k glimit qbpp before v rest → (answer ≡ Ok v) × (after ≡ rest)
one_answer k glimit qbpp before after (Ok w) code taken fault v rest word =
    let same = same_word k glimit qbpp before w v after rest code taken word in
    (ap Ok same.0, same.1)
one_answer k glimit qbpp before after (Err NotCanonical) code taken fault v rest word =
    absurd (canonical k glimit qbpp before v rest code word fault)
one_answer k glimit qbpp before after (Err OutOfBits) code taken fault v rest word =
    absurd (fault.0 v word.value (rest, word.word))
