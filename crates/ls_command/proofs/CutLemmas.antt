-- Where a text says that a recording is cut, from the number in it.
use Rattle.std.proofs.Common.{◌≡◌, ◌≢◌, ◌≤◌, ◌^◌, ◌++◌, ◌∷◌, ℕ, List, [], Some, None, refl, sym, ap, subst, ◌∙◌, arith, drop}
use Rattle.std.specs.Str.Parse.{AllDigits}
use Rattle.std.proofs.lemmas.Str.Parse.{digit_from_value}
use Rattle.ls_command.specs.declared.cut.Cut.TheVariants as cut
use Rattle.ls_command.specs.Values.{Writes, ReadsBelow, letter_s}
use Rattle.ls_command.specs.View.Asked.{IsCutAfter, ReadsCut}

-- ---- a number that isn't 0

pub after_none : (text : List ℕ) → ReadsBelow (2 ^ 32) text None → IsCutAfter text None
after_none text none = λ n writes some. none n writes some.1

pub after_nothing : (text : List ℕ) (n : ℕ) → n ≡ 0 → ReadsBelow (2 ^ 32) text (Some n) → IsCutAfter text None
after_nothing text n zero reads = λ m writes some. omega (arith, zero, reads.0.1, writes.1, some.0)

pub after_some : (text : List ℕ) (n : ℕ) → n ≢ 0 → ReadsBelow (2 ^ 32) text (Some n) → IsCutAfter text (Some n)
after_some text n some reads = (reads.0, (omega (arith, some), reads.1))

-- ---- the letter at the end

-- digits don't end with a letter
digits_end : (front : List ℕ) → AllDigits 10 (front ++ (letter_s ∷ [])) → ⊥
digits_end [] digits = let digit : (48 ≤ letter_s) × (letter_s ≤ 57) = digit_from_value letter_s digits.0 in omega (arith, digit.1)
digits_end (c ∷ front) digits = digits_end front digits.1

number_ends : (text front : List ℕ) (n : ℕ) → Writes text n → text ≡ front ++ (letter_s ∷ []) → ⊥
number_ends text front n writes is = digits_end front (subst (AllDigits 10) is writes.0.1)

-- what is before it
before_last : (c : ℕ) (a b : List ℕ) → a ++ (c ∷ []) ≡ b ++ (c ∷ []) → a ≡ b
before_last c [] [] same = refl
before_last c [] (e ∷ []) same = let none : [] ≡ c ∷ [] = ap (drop 1) same in cc
before_last c [] (e ∷ f ∷ b) same = let none : [] ≡ f ∷ (b ++ (c ∷ [])) = ap (drop 1) same in cc
before_last c (d ∷ []) [] same = let none : c ∷ [] ≡ [] = ap (drop 1) same in cc
before_last c (d ∷ e ∷ a) [] same = let none : e ∷ (a ++ (c ∷ [])) ≡ [] = ap (drop 1) same in cc
before_last c (d ∷ a) (e ∷ b) same =
    let first : d ≡ e = cc in
    let later : a ≡ b = before_last c a b (ap (drop 1) same) in
    λ i. first i ∷ later i

module _ (text seconds : List ℕ) (is : text ≡ seconds ++ (letter_s ∷ [])) where
  pub seconds_none : IsCutAfter seconds None → ReadsCut text None
  seconds_none none (cut.Frames n) writes some = number_ends text seconds n writes is
  seconds_none none (cut.Seconds n) writes some =
      let same : writes.0 ≡ seconds = before_last letter_s writes.0 seconds (sym writes.1 ∙ is) in
      none n (subst (λ digits. Writes digits n) same writes.2) some

  pub seconds_some : (n : ℕ) → IsCutAfter seconds (Some n) → ReadsCut text (Some (cut.Seconds n))
  seconds_some n after = ((seconds, is, after.0), after.1)

module _ (text : List ℕ) (lacks : (front : List ℕ) → text ≢ front ++ (letter_s ∷ [])) where
  pub frames_none : IsCutAfter text None → ReadsCut text None
  frames_none none (cut.Frames n) writes some = none n writes some
  frames_none none (cut.Seconds n) writes some = lacks writes.0 writes.1

  pub frames_some : (n : ℕ) → IsCutAfter text (Some n) → ReadsCut text (Some (cut.Frames n))
  frames_some n after = after
