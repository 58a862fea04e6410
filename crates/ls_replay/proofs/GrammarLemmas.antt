-- Reading a line agrees with the grammar, in both directions.
use Rattle.std.proofs.Common.{◌⊎◌, inl, inr, ◌≡◌, ℕ, ◌+◌, ◌-◌, ◌^◌, ◌<◌, ◌≤◌, Bool, true, false, not, ◌&&◌, cond, if◌then◌else◌, nat_le, IsTrue, List, [], ◌∷◌, ◌++◌, length, take, drop, suc, Option, Some, None, bytes_eq, codes, refl, sym, ap, subst, ◌∙◌, arith, append-nil}
use Rattle.std.specs.List.{prefix_len, AllByRecursion, list_all}
use Rattle.std.proofs.lemmas.Bool.Decides.{nat_tests}
use Rattle.std.proofs.lemmas.List.{take-append-drop}
use Rattle.std.proofs.Math.Seq.{take-append_seam, drop-append_seam}
use Rattle.std.proofs.lemmas.Slice.Eq.{bytes_eq-Decides}
use Rattle.ls_replay.proofs.StepsReadingLemmas.{number_of-some}
use Rattle.ls_frame.specs.Netpbm.{is_digit, decimal_value}
use Rattle.ls_queue.specs.declared.steps.Step.{Step}
use Rattle.ls_queue.specs.declared.steps.Step.TheVariants as step
use Rattle.ls_replay.specs.declared.steps_file.Line.{Line}
use Rattle.ls_replay.specs.declared.steps_file.Line.TheVariants as line
use Rattle.ls_replay.specs.StepsFile.{is_blank, AreBlanks, IsWord, EndsWord, HasWords, Writes, IsLine}
use Rattle.ls_replay.specs.View.StepsReading.{without_blanks, first_word, after_word, is_none, number_of, put_of, close_of, step_of, line_of}

-- ---- words

one_more : (n : ℕ) → suc n ≡ 1 + n
one_more n = omega arith

-- blanks at the front, and what follows them
blanks-front : (text : List ℕ) → AreBlanks (take (prefix_len is_blank text) text)
blanks-front [] = tt
blanks-front (c ∷ text) =
    let n = prefix_len is_blank text in
    let P : Bool → Type 0 = λ b. is_blank c ≡ b → AreBlanks (take (cond b (1 + n) 0) (c ∷ text)) in
    let Q : ℕ → Type 0 = λ k. AreBlanks (take k (c ∷ text)) in
    let both : P (is_blank c) = elim (is_blank c) as P [
      | true ↦ λ e. subst Q (one_more n) (e, blanks-front text)
      | false ↦ λ e. tt
    ] in
    both refl

word-front : (text : List ℕ) → AllByRecursion (λ c. IsTrue (not (is_blank c))) (take (prefix_len (λ c. not (is_blank c)) text) text)
word-front [] = tt
word-front (c ∷ text) =
    let n = prefix_len (λ d. not (is_blank d)) text in
    let P : Bool → Type 0 = λ b. is_blank c ≡ b → AllByRecursion (λ d. IsTrue (not (is_blank d))) (take (cond (not b) (1 + n) 0) (c ∷ text)) in
    let Q : ℕ → Type 0 = λ k. AllByRecursion (λ d. IsTrue (not (is_blank d))) (take k (c ∷ text)) in
    let both : P (is_blank c) = elim (is_blank c) as P [
      | true ↦ λ e. tt
      | false ↦ λ e. subst Q (one_more n) (ap not e, word-front text)
    ] in
    both refl

ends-word : (text : List ℕ) → EndsWord (drop (prefix_len (λ c. not (is_blank c)) text) text)
ends-word [] = tt
ends-word (c ∷ text) =
    let n = prefix_len (λ d. not (is_blank d)) text in
    let P : Bool → Type 0 = λ b. is_blank c ≡ b → EndsWord (drop (cond (not b) (1 + n) 0) (c ∷ text)) in
    let Q : ℕ → Type 0 = λ k. EndsWord (drop k (c ∷ text)) in
    let both : P (is_blank c) = elim (is_blank c) as P [
      | true ↦ λ e. e
      | false ↦ λ e. subst Q (one_more n) (ends-word text)
    ] in
    both refl

and-left : (a b : Bool) → (a && b) ≡ true → a ≡ true
and-left true b e = refl
and-left false b e = e

and-right : (a b : Bool) → (a && b) ≡ true → b ≡ true
and-right true b e = e
and-right false b e = cc

never : (word : List ℕ) (c : ℕ) → is_none (c ∷ word) ≡ true → ⊥
never word c e = grind (arith, nat_tests)

is_none-false : (word : List ℕ) → is_none word ≡ false → 0 < length word
is_none-false word e = grind (arith, nat_tests)

-- a line with a first word, and the others
pub words-more : (text : List ℕ) (words : List (List ℕ)) → is_none (first_word text) ≡ false → HasWords (after_word text) words → HasWords text (first_word text ∷ words)
words-more text words some more =
    let blanks = take (prefix_len is_blank text) text in
    let rest = without_blanks text in (
      blanks,
      after_word text,
      sym (ap (λ back. blanks ++ back) (take-append-drop (prefix_len (λ c. not (is_blank c)) rest) rest) ∙ take-append-drop (prefix_len is_blank text) text),
      blanks-front text,
      record { some = is_none-false (first_word text) some; each = word-front rest },
      ends-word rest,
      more,
    )

-- leading blanks change neither the first word of a text nor what follows it
without-blanks : (blanks text : List ℕ) → AreBlanks blanks → without_blanks (blanks ++ text) ≡ without_blanks text
without-blanks [] text all = refl
without-blanks (c ∷ blanks) text all =
    let n = prefix_len is_blank (blanks ++ text) in
    ap (λ b. drop (cond b (1 + n) 0) (c ∷ (blanks ++ text))) all.0
    ∙ ap (λ k. drop k (c ∷ (blanks ++ text))) (sym (one_more n)) ∙ without-blanks blanks text all.1

-- a word at the front is found, and what follows it
word-found : (word rest : List ℕ) → AllByRecursion (λ c. IsTrue (not (is_blank c))) word → EndsWord rest → prefix_len (λ c. not (is_blank c)) (word ++ rest) ≡ length word
word-found [] [] all ends = refl
word-found [] (c ∷ rest) all ends = ap (λ b. cond (not b) (1 + prefix_len (λ d. not (is_blank d)) rest) 0) ends
word-found (c ∷ word) rest all ends =
    ap (λ b. cond b (1 + prefix_len (λ d. not (is_blank d)) (word ++ rest)) 0) all.0 ∙ ap (λ n. 1 + n) (word-found word rest all.1 ends) ∙ sym (one_more (length word))

not_not : (b : Bool) → not b ≡ true → b ≡ false
not_not true e = sym e
not_not false e = refl

no-blanks : (word rest : List ℕ) → IsWord word → without_blanks (word ++ rest) ≡ word ++ rest
no-blanks [] rest is = absurd (omega (arith, is.some))
no-blanks (c ∷ word) rest is =
    ap (λ b. drop (cond b (1 + prefix_len is_blank (word ++ rest)) 0) (c ∷ (word ++ rest))) (not_not (is_blank c) is.each.0)

-- the words of a line are found
pub words-found : (text word : List ℕ) (words : List (List ℕ)) → HasWords text (word ∷ words) → (first_word text ≡ word) × HasWords (after_word text) words
words-found text word words (blanks, rest, whole, all, is, ends, more) =
    let left : without_blanks text ≡ word ++ rest = ap without_blanks whole ∙ without-blanks blanks (word ++ rest) all ∙ no-blanks word rest is in
    let size : prefix_len (λ c. not (is_blank c)) (without_blanks text) ≡ length word = ap (prefix_len (λ c. not (is_blank c))) left ∙ word-found word rest is.each ends in
    let first : first_word text ≡ word = ap (λ n. take n (without_blanks text)) size ∙ ap (take (length word)) left ∙ take-append_seam word rest in
    let after : after_word text ≡ rest = ap (λ n. drop n (without_blanks text)) size ∙ ap (drop (length word)) left ∙ drop-append_seam word rest in
    (first, subst (λ t. HasWords t words) (sym after) more)

pub blanks-none : (text : List ℕ) → AreBlanks text → without_blanks text ≡ []
blanks-none [] all = refl
blanks-none (c ∷ text) all =
    ap (λ b. drop (cond b (1 + prefix_len is_blank text) 0) (c ∷ text)) all.0 ∙ ap (λ k. drop k (c ∷ text)) (sym (one_more (prefix_len is_blank text))) ∙ blanks-none text all.1

pub no-words-found : (text : List ℕ) → HasWords text [] → first_word text ≡ []
no-words-found text all = ap (λ t. take (prefix_len (λ c. not (is_blank c)) t) t) (blanks-none text all)

-- a text is blanks alone, or blanks followed by a byte that is none
starts : (text : List ℕ) → (without_blanks text ≡ []) ⊎ ((c : ℕ) × (rest : List ℕ) × (without_blanks text ≡ c ∷ rest) × (is_blank c ≡ false))
starts [] = inl refl
starts (c ∷ text) =
    let n = prefix_len is_blank text in
    let Found : List ℕ → Type 0 = λ left. (left ≡ []) ⊎ ((d : ℕ) × (rest : List ℕ) × (left ≡ d ∷ rest) × (is_blank d ≡ false)) in
    let P : Bool → Type 0 = λ b. is_blank c ≡ b → Found (drop (cond b (1 + n) 0) (c ∷ text)) in
    let Q : ℕ → Type 0 = λ k. Found (drop k (c ∷ text)) in
    let both : P (is_blank c) = elim (is_blank c) as P [
      | true ↦ λ e. subst Q (one_more n) (starts text)
      | false ↦ λ e. inr (c, text, refl, e)
    ] in
    both refl

-- if no word is found, there are only blanks
pub words-none : (text : List ℕ) → is_none (first_word text) ≡ true → HasWords text []
words-none text none =
    elim (starts text) [
      | inl left ↦
          let whole : take (prefix_len is_blank text) text ≡ text =
          sym (append-nil (take (prefix_len is_blank text) text)) ∙ ap (λ back. take (prefix_len is_blank text) text ++ back) (sym left) ∙ take-append-drop (prefix_len is_blank text) text in
          subst AreBlanks whole (blanks-front text)
      | inr found ↦
          let c = found.0 in
          let rest = found.1 in
          let n = prefix_len (λ d. not (is_blank d)) rest in
          let word : first_word text ≡ take (1 + n) (c ∷ rest) =
          ap (λ t. take (prefix_len (λ d. not (is_blank d)) t) t) found.2 ∙ ap (λ b. take (cond (not b) (1 + n) 0) (c ∷ rest)) found.3 in
          let some : first_word text ≡ c ∷ take n rest = word ∙ ap (λ k. take k (c ∷ rest)) (sym (one_more n)) in
          let no : is_none (c ∷ take n rest) ≡ true = ap is_none (sym some) ∙ none in
          absurd (never (take n rest) c no)
    ]

-- ---- numbers

all_digits : (word : List ℕ) → list_all is_digit word ≡ true → AllByRecursion (λ c. IsTrue (is_digit c)) word
all_digits [] all = tt
all_digits (c ∷ word) all = (and-left (is_digit c) (list_all is_digit word) all, all_digits word (and-right (is_digit c) (list_all is_digit word) all))

digits-all : (word : List ℕ) → AllByRecursion (λ c. IsTrue (is_digit c)) word → list_all is_digit word ≡ true
digits-all [] all = refl
digits-all (c ∷ word) all = ap (λ b. b && list_all is_digit word) all.0 ∙ digits-all word all.1

some_if : (b : Bool) (v n : ℕ) → (if b then Some v else None) ≡ Some n → (b ≡ true) × (v ≡ n)
some_if true v n e = (refl, cc)
some_if false v n e = cc

pub number-written : (most n : ℕ) (word : List ℕ) → number_of most word ≡ Some n → Writes word n × (n ≤ most)
number-written most n word e =
    let both = some_if (not (is_none word) && list_all is_digit word && nat_le (decimal_value word) most) (decimal_value word) n e in
    let front : (not (is_none word) && list_all is_digit word) ≡ true = and-left (not (is_none word) && list_all is_digit word) (nat_le (decimal_value word) most) both.0 in
    let there : not (is_none word) ≡ true = and-left (not (is_none word)) (list_all is_digit word) front in
    let digits : list_all is_digit word ≡ true = and-right (not (is_none word)) (list_all is_digit word) front in
    let within : nat_le (decimal_value word) most ≡ true = and-right (not (is_none word) && list_all is_digit word) (nat_le (decimal_value word) most) both.0 in
    let some : 0 < length word = is_none-false word (not_not (is_none word) there) in
    let small : decimal_value word ≤ most = grind (arith, nat_tests) in
    ((record { some = some; each = all_digits word digits }, both.1), omega (arith, small, both.1))

pub number-read : (most n : ℕ) (word : List ℕ) → Writes word n → n ≤ most → number_of most word ≡ Some n
number-read most n word writes within = number_of-some most n word writes.0.some (digits-all word writes.0.each) writes.1 within

-- ---- lines

put-says : (s x : Option ℕ) (st : Step) → put_of s x ≡ line.Step st → (a : ℕ) × (b : ℕ) × (s ≡ Some a) × (x ≡ Some b) × (st ≡ step.Put a b)
put-says (Some a) (Some b) st e = (a, b, refl, refl, cc)
put-says (Some a) None st e = cc
put-says None x st e = cc

close-says : (s : Option ℕ) (st : Step) → close_of s ≡ line.Step st → (a : ℕ) × (s ≡ Some a) × (st ≡ step.Close a)
close-says (Some a) st e = (a, refl, cc)
close-says None st e = cc

which : (a b c : Bool) (p q : Line) (st : Step) → (if a then p else (if b then q else (if c then line.Step step.Take else line.Other))) ≡ line.Step st
    → ((a ≡ true) × (p ≡ line.Step st)) ⊎ ((b ≡ true) × (q ≡ line.Step st)) ⊎ ((c ≡ true) × (st ≡ step.Take))
which true b c p q st e = inl (refl, e)
which false true c p q st e = inr (inl (refl, e))
which false false true p q st e = inr (inr (refl, cc))
which false false false p q st e = cc

is_step : (a b : Bool) (p : Line) (st : Step) → (if a then line.Blank else (if b then p else line.Other)) ≡ line.Step st → (a ≡ false) × (b ≡ true) × (p ≡ line.Step st)
is_step true b p st e = cc
is_step false true p st e = (refl, refl, e)
is_step false false p st e = cc

same_bytes : (xs ys : List ℕ) → bytes_eq xs ys ≡ true → xs ≡ ys
same_bytes xs ys e = (bytes_eq-Decides xs ys).0 e

some-word : (word : List ℕ) → 0 < length word → is_none word ≡ false
some-word word some = grind (arith, nat_tests)

-- a line that is read as a step says that step
pub line-says : (text : List ℕ) (st : Step) → line_of text ≡ line.Step st → IsLine text (st ∷ [])
line-says text st e =
    let one = after_word text in
    let two = after_word one in
    let three = after_word two in
    let first = first_word text in
    let second = first_word one in
    let third = first_word two in
    let found = is_step (is_none first) (is_none (first_word three)) (step_of first second third) st e in
    let end : HasWords three [] = words-none three found.1 in
    elim (which (bytes_eq first (codes "put")) (bytes_eq first (codes "close") && is_none third) (bytes_eq first (codes "take") && is_none second)
    (put_of (number_of 255 second) (number_of (2 ^ 64 - 1) third)) (close_of (number_of 255 second)) st found.2) [
      | inl put ↦
          let says = put-says (number_of 255 second) (number_of (2 ^ 64 - 1) third) st put.1 in
          let source = number-written 255 says.0 second says.2 in
          let item = number-written (2 ^ 64 - 1) says.1 third says.3 in
          let words : HasWords text (first ∷ second ∷ third ∷ []) =
          words-more text (second ∷ third ∷ []) found.0 (words-more one (third ∷ []) (some-word second source.0.0.some) (words-more two [] (some-word third item.0.0.some) end)) in
          let key : first ≡ codes "put" = same_bytes first (codes "put") put.0 in
          let P : Step → Type 0 = λ t. IsLine text (t ∷ []) in
          subst P (sym says.4) (first ∷ second ∷ third ∷ [], words, (second, third, ap (λ w. w ∷ second ∷ third ∷ []) key, source.0, omega (arith, source.1), item.0, omega (arith, item.1)))
      | inr other ↦ elim other [
        | inl close ↦
            let key : first ≡ codes "close" = same_bytes first (codes "close") (and-left (bytes_eq first (codes "close")) (is_none third) close.0) in
            let none : is_none third ≡ true = and-right (bytes_eq first (codes "close")) (is_none third) close.0 in
            let says = close-says (number_of 255 second) st close.1 in
            let source = number-written 255 says.0 second says.1 in
            let words : HasWords text (first ∷ second ∷ []) = words-more text (second ∷ []) found.0 (words-more one [] (some-word second source.0.0.some) (words-none two none)) in
            let P : Step → Type 0 = λ t. IsLine text (t ∷ []) in
            subst P (sym says.2) (first ∷ second ∷ [], words, (second, ap (λ w. w ∷ second ∷ []) key, source.0, omega (arith, source.1)))
        | inr take ↦
            let key : first ≡ codes "take" = same_bytes first (codes "take") (and-left (bytes_eq first (codes "take")) (is_none second) take.0) in
            let none : is_none second ≡ true = and-right (bytes_eq first (codes "take")) (is_none second) take.0 in
            let words : HasWords text (first ∷ []) = words-more text [] found.0 (words-none one none) in
            let P : Step → Type 0 = λ t. IsLine text (t ∷ []) in
            subst P (sym take.1) (first ∷ [], words, ap (λ w. w ∷ []) key)
      ]
    ]
