-- Numbers in decimal digits: what `parse` reads, and where a text is cut in two.
use Rattle.std.proofs.Common.{◌≡◌, ◌≢◌, ◌<◌, ◌≤◌, ◌^◌, ◌++◌, ◌∷◌, ℕ, suc, List, [], length, Some, None, Result, Ok, Err, refl, sym, ap, subst, ◌∙◌, arith, get_or, drop}
use Rattle.std.specs.Borrow.{Bor}
use Rattle.std.specs.List.{AllByRecursion}
use Rattle.std.specs.Str.Parse.{AllDigits, ParsesUnsigned, digits_value}
use Rattle.std.specs.Result.{OkIff}
use Rattle.std.proofs.lemmas.Str.Pattern.{IsSplitOnceResult, split_parts}
use Rattle.std.proofs.lemmas.Str.Parse.{numerals_by_value, tells_digits, parse_plain, digit_from_value, IsNumeralModel}
use Rattle.ls_command.specs.Values.{Writes, ReadsBelow}

own : IsNumeralModel (AllDigits 10) (digits_value 10)
own = numerals_by_value (AllDigits 10) tells_digits

-- what begins with a plus writes no number
pub signed_none : (limit : ℕ) (text : List ℕ) → get_or text 0 0 ≡ 43 → ReadsBelow limit text None
signed_none limit [] plus = λ n writes lt. omega (arith, writes.0.0)
signed_none limit (c ∷ text) plus = λ n writes lt.
    let is : c ≡ 43 = plus in
    let digit : (48 ≤ c) × (c ≤ 57) = digit_from_value c writes.0.1.0 in
    omega (arith, digit.0, is)

-- ---- what `parse` reads

module _ {E : Type 0} (k limit : ℕ) (text : List ℕ) (outcome : Result ℕ E) (reads : ParsesUnsigned k 10 text outcome) (plain : get_or text 0 0 ≢ 43) where
  abbrev Digits : Type 0
  Digits = AllDigits 10 text × (0 < length text) × (digits_value 10 text < 2 ^ k)

  read_as : OkIff outcome Digits (digits_value 10 text)
  read_as = parse_plain own k text outcome reads plain

  pub parsed_below : (n : ℕ) → outcome ≡ Ok n → n < limit → ReadsBelow limit text (Some n)
  parsed_below n is lt = let all : Digits × (n ≡ digits_value 10 text) = subst (λ (o : Result ℕ E). OkIff o Digits (digits_value 10 text)) is read_as in
      (((all.0.1, all.0.0), sym all.1), lt)

  pub parsed_beyond : (n : ℕ) → outcome ≡ Ok n → limit ≤ n → ReadsBelow limit text None
  parsed_beyond n is le = λ m writes lt. let all : Digits × (n ≡ digits_value 10 text) = subst (λ (o : Result ℕ E). OkIff o Digits (digits_value 10 text)) is read_as in
      omega (arith, all.1, writes.1, lt, le)

  pub unparsed : (e : E) → outcome ≡ Err e → limit ≤ 2 ^ k → ReadsBelow limit text None
  unparsed e is small = λ n writes lt. let none : Digits → ⊥ = subst (λ (o : Result ℕ E). OkIff o Digits (digits_value 10 text)) is read_as in
      none (writes.0.1, writes.0.0, omega (arith, writes.1, lt, small))

-- ---- cuts

-- a byte isn't among these
abbrev pub Lacks : ℕ → List ℕ → Type 0
Lacks c text = AllByRecursion (λ d. d ≢ c) text

pub lacks_by_index : (c : ℕ) (text : List ℕ) → ((i : ℕ) → i < length text → get_or text i 0 ≢ c) → Lacks c text
lacks_by_index c [] none = tt
lacks_by_index c (d ∷ text) none = (none 0 (omega arith), lacks_by_index c text (λ i lt. none (suc i) (omega (arith, lt))))

pub digits_lack : (c : ℕ) (text : List ℕ) → c < 48 → AllDigits 10 text → Lacks c text
digits_lack c [] low digits = tt
digits_lack c (d ∷ text) low digits =
    let digit : (48 ≤ d) × (d ≤ 57) = digit_from_value d digits.0 in
    ((λ same. omega (arith, digit.0, same, low)), digits_lack c text low digits.1)

-- the digits of a number
pub number_lacks : (c : ℕ) (text : List ℕ) (n : ℕ) → c < 48 → Writes text n → Lacks c text
number_lacks c text n low writes = digits_lack c text low writes.0.1

-- the first byte
unfoldable first-of : List ℕ → ℕ
first-of [] = 0
first-of (c ∷ text) = c

-- what lacks a byte isn't cut at it
pub no_cut : (c : ℕ) (a x y : List ℕ) → Lacks c a → a ≡ x ++ c ∷ y → ⊥
unfolding first-of
no_cut c [] [] y lacks same = cc
no_cut c [] (e ∷ x) y lacks same = cc
no_cut c (d ∷ a) [] y lacks same = lacks.0 (ap first-of same)
no_cut c (d ∷ a) (e ∷ x) y lacks same = let later : a ≡ x ++ c ∷ y = ap (drop 1) same in no_cut c a x y lacks.1 later

-- at its first such byte a text is cut in one way
pub one_cut : (c : ℕ) (a b x y : List ℕ) → Lacks c a → Lacks c x → a ++ c ∷ b ≡ x ++ c ∷ y → (a ≡ x) × (b ≡ y)
unfolding first-of
one_cut c [] b [] y lacks other same = (refl, ap (drop 1) same)
one_cut c [] b (e ∷ x) y lacks other same = absurd (other.0 (sym (ap first-of same)))
one_cut c (d ∷ a) b [] y lacks other same = absurd (lacks.0 (ap first-of same))
one_cut c (d ∷ a) b (e ∷ x) y lacks other same =
    let later : a ++ c ∷ b ≡ x ++ c ∷ y = ap (drop 1) same in
    let rest = one_cut c a b x y lacks.1 other.1 later in
    let first : d ≡ e = ap first-of same in
    (ap (λ z. z ∷ a) first ∙ ap (λ zs. e ∷ zs) rest.0, rest.1)

-- ---- `split_once` and `strip_prefix` at an ASCII byte

module _ (c : ℕ) (text : List ℕ) (low : c < 128) where
  pub uncut : IsSplitOnceResult c text None → Lacks c text
  uncut says = lacks_by_index c text (split_parts c text None says low)

  pub cut_first : (x : Bor (List ℕ) × Bor (List ℕ)) → IsSplitOnceResult c text (Some x) → (text ≡ x.0.now ++ c ∷ x.1.now) × Lacks c x.0.now
  cut_first x says = let parts = split_parts c text (Some x) says low in (parts.0, lacks_by_index c x.0.now parts.1)
