-- What follows the size in a line: its kind, its numbers and its sum.
use Rattle.std.proofs.Common.{◌≡◌, ◌≢◌, inl, inr, ℕ, ◌+◌, ◌-◌, ◌<◌, ◌^◌, List, [], ◌∷◌, ◌++◌, length, drop, Option, None, Some, Result, Ok, Err, decimal, codes, refl, sym, ap, ◌∙◌, arith, append_assoc, append-nil}
use denote.Ref.{Bor}
use Rattle.std.specs.Prelude.{MatchOption, IfSome, OnOk, flat_map}
use Rattle.std.proofs.Math.Seq.{drop-append_seam}
use Rattle.std.proofs.lemmas.List.{length_push}
use Rattle.std.specs.Result.{result_ok}
use Rattle.hex.specs.Hex.{encode_lower, decode_sized, IsBytes}
use Rattle.hex.specs.declared.error.FromHexError.{FromHexError}
use Rattle.hex.proofs.HexLemmas.{decode_sized-encode_lower}
use Rattle.ls_frame.specs.declared.frame.Kind.{Kind}
use Rattle.ls_frame.specs.declared.frame.Kind.TheVariants.{Gray, Color}
use Rattle.ls_film.specs.Listing.{kind_text, column}
use Rattle.ls_archive.specs.View.Checking.{AreNumbers, EndsColumn, AreColumns, IsSum, sum_at_end}
use Rattle.ls_archive.proofs.LineLemmas.{head_or, all-append}

-- ---- what is left after a front

-- with the same front, the rest is the same
pub same_rest : (p a b : List ℕ) → p ++ a ≡ p ++ b → a ≡ b
same_rest p a b same = sym (drop-append_seam p a) ∙ ap (drop (length p)) same ∙ drop-append_seam p b

-- stripping a front leaves what follows it
pub stripped : (s p rest : List ℕ) (r : Option (Bor (List ℕ))) → MatchOption r ((rest : List ℕ) → s ≢ p ++ rest) (λ x. s ≡ p ++ x.now) → s ≡ p ++ rest
    → MatchOption r ⊥ (λ left. left.now ≡ rest)
stripped s p rest None not is = not rest is
stripped s p rest (Some x) left is = same_rest p x.now rest (sym left ∙ is)

-- ---- kinds

gray_or_color : (a b : List ℕ) → codes "gray" ++ a ≡ codes "color" ++ b → ⊥
unfolding head_or
gray_or_color a b same = let first : 103 ≡ 99 = ap (head_or 0) same in omega (arith, first)

-- a text that begins with gray has no other kind
pub only-gray : (text left rest : List ℕ) (kind : Kind) → text ≡ codes "gray" ++ left → text ≡ kind_text kind ++ rest → left ≡ rest
only-gray text left rest Gray begins is = same_rest (codes "gray") left rest (sym begins ∙ is)
only-gray text left rest Color begins is = absurd (gray_or_color left rest (sym begins ∙ is))

-- one that doesn't begin with it has the other
pub only-color : (text rest : List ℕ) (kind : Kind) (r : Option (Bor (List ℕ))) → ((rest : List ℕ) → text ≢ codes "gray" ++ rest)
    → MatchOption r ((rest : List ℕ) → text ≢ codes "color" ++ rest) (λ x. text ≡ codes "color" ++ x.now) → text ≡ kind_text kind ++ rest → MatchOption r ⊥ (λ left. left.now ≡ rest)
only-color text rest Gray r not strips is = absurd (not rest is)
only-color text rest Color r not strips is = stripped text (codes "color") rest r strips is

-- ---- numbers

-- a blank and a number were stripped
pub column-stripped : (number : ℕ) (text left front : List ℕ) (r : Option (Bor (List ℕ))) → number < 2 ^ 16 → text ≡ codes " " ++ left → front ≡ decimal number
    → MatchOption r ((rest : List ℕ) → left ≢ front ++ rest) (λ x. left ≡ front ++ x.now) → IfSome r (λ rest. (x : ℕ) × (x < 2 ^ 16) × (text ≡ column x ++ rest.now))
column-stripped number text left front None small begins same not = tt
column-stripped number text left front (Some rest) small begins same strips =
    (number, small, begins ∙ ap (λ s. codes " " ++ s) (strips ∙ ap (λ s. s ++ rest.now) same))

-- a column and then more columns
pub column-first : (number : ℕ) (numbers rest : List ℕ) → flat_map column (number ∷ numbers) ++ rest ≡ column number ++ (flat_map column numbers ++ rest)
column-first number numbers rest = append_assoc (column number) (flat_map column numbers) rest

-- what follows a column, if it is columns and their end, ends that column
pub columns-end : (numbers rest : List ℕ) → EndsColumn rest → EndsColumn (flat_map column numbers ++ rest)
columns-end [] rest ends = ends
columns-end (number ∷ numbers) rest ends = inr (decimal number ++ (flat_map column numbers ++ rest), column-first number numbers rest)

-- no numbers yet
pub numbers-none : (text : List ℕ) → (numbers : List ℕ) × AreNumbers 0 numbers × (text ≡ flat_map column numbers ++ text)
numbers-none text = ([], (refl, tt), refl)

columns-push : (numbers : List ℕ) (number : ℕ) (mid left : List ℕ) → mid ≡ column number ++ left → flat_map column numbers ++ mid ≡ flat_map column (numbers ++ number ∷ []) ++ left
columns-push [] number mid left is = is ∙ ap (λ s. s ++ left) (sym (append-nil (column number)))
columns-push (first ∷ numbers) number mid left is =
    append_assoc (column first) (flat_map column numbers) mid
    ∙ ap (λ s. column first ++ s) (columns-push numbers number mid left is)
    ∙ sym (append_assoc (column first) (flat_map column (numbers ++ number ∷ [])) left)

-- one more number
pub numbers-push : (count : ℕ) (text mid left : List ℕ) → (numbers : List ℕ) × AreNumbers count numbers × (text ≡ flat_map column numbers ++ mid) → (number : ℕ) × (number < 2 ^ 16) × (mid ≡ column number ++ left)
    → (numbers : List ℕ) × AreNumbers (count + 1) numbers × (text ≡ flat_map column numbers ++ left)
numbers-push count text mid left are one = (
  are.0 ++ one.0 ∷ [],
  (length_push are.0 one.0 ∙ ap (λ k. k + 1) are.1.0, all-append (λ number. number < 2 ^ 16) are.0 (one.0 ∷ []) are.1.1 (one.1, tt)),
  are.2 ∙ columns-push are.0 one.0 mid left one.2,
)

-- the first number, and those after it
pub numbers-first : (count : ℕ) (text rest numbers : List ℕ) → 0 < count → AreNumbers count numbers → text ≡ flat_map column numbers ++ rest
    → (number : ℕ) × (numbers : List ℕ) × (number < 2 ^ 16) × AreNumbers (count - 1) numbers × (text ≡ column number ++ (flat_map column numbers ++ rest))
numbers-first count text rest [] some are is = absurd (omega (arith, some, are.0))
numbers-first count text rest (number ∷ numbers) some are is = (number, numbers, are.1.0, (omega (arith, are.0, some), are.1.1), is ∙ column-first number numbers rest)

-- no numbers left
pub numbers-nothing : (count : ℕ) (text rest numbers : List ℕ) → count ≡ 0 → AreNumbers count numbers → text ≡ flat_map column numbers ++ rest → text ≡ rest
numbers-nothing count text rest [] none are is = is
numbers-nothing count text rest (number ∷ numbers) none are is = absurd (omega (arith, none, are.0))

-- ---- the sum

-- the end of a line without its LF ends a column
pub sum-ends : (sum : Option (List ℕ)) → EndsColumn (sum_at_end sum)
sum-ends None = inl refl
sum-ends (Some sum) = inr (encode_lower sum, refl)

-- what was parsed is the columns
pub are-columns : (text mid left : List ℕ) (sum : Option (List ℕ)) → (kind : Kind) × (text ≡ kind_text kind ++ mid) → (numbers : List ℕ) × AreNumbers 8 numbers × (mid ≡ flat_map column numbers ++ left)
    → IsSum sum → left ≡ sum_at_end sum → AreColumns text sum
are-columns text mid left sum kind numbers is ends = record {
  kind = kind.0;
  numbers = numbers.0;
  are = numbers.1;
  is_sum = is;
  text_is = kind.1 ∙ ap (λ s. kind_text kind.0 ++ s) (numbers.2 ∙ ap (λ s. flat_map column numbers.0 ++ s) ends);
}

pub are-columns-some : (text mid left : List ℕ) (r : Option (Option (List ℕ))) → (kind : Kind) × (text ≡ kind_text kind ++ mid) → (numbers : List ℕ) × AreNumbers 8 numbers × (mid ≡ flat_map column numbers ++ left)
    → IfSome r (λ sum. IsSum sum × (left ≡ sum_at_end sum)) → IfSome r (AreColumns text)
are-columns-some text mid left None kind numbers is = tt
are-columns-some text mid left (Some sum) kind numbers is = are-columns text mid left sum kind numbers is.0 is.1

-- the digits of a sum
pub sum-digits : (text digits : List ℕ) (sum : Option (List ℕ)) → text ≡ codes " " ++ digits → IsSum sum → text ≡ sum_at_end sum
    → (s : List ℕ) × (sum ≡ Some s) × (digits ≡ encode_lower s) × (length s ≡ 32) × IsBytes s
sum-digits text digits None begins is same = absurd (omega (arith, ap length (sym begins ∙ same)))
sum-digits text digits (Some s) begins is same = (s, refl, same_rest (codes " ") digits (encode_lower s) (sym begins ∙ same), is.0, is.1)

-- they are decoded to it
pub sum-read : (digits s : List ℕ) (r : Result (List ℕ) FromHexError) → r ≡ decode_sized digits 32 → digits ≡ encode_lower s → length s ≡ 32 → IsBytes s → r ≡ Ok s
sum-read digits s r is same size bytes = is ∙ ap (λ d. decode_sized d 32) same ∙ decode_sized-encode_lower s 32 size bytes

-- what holds of a result that was Ok
pub on-ok : {A E P : Type 0} (r : Result A E) (a : A) → OnOk r P → Some a ≡ result_ok r → P
on-ok (Ok b) a holds same = holds
on-ok (Err e) a holds same = let clash : ⊥ = cc in absurd clash
