-- Steps in reading lines, words and numbers.
use Rattle.std.proofs.Common.{◌≡◌, ℕ, ◌+◌, ◌-◌, ◌*◌, ◌<◌, ◌≤◌, Bool, true, false, not, ◌&&◌, cond, if◌then◌else◌, nat_le, List, [], ◌∷◌, ◌++◌, length, take, drop, fold, get_or, suc, Some, None, Result, Ok, Err, refl, sym, ap, ◌∙◌, arith, add-one, append_assoc}
use Rattle.std.specs.List.{prefix_len, slice_split, onto_first, list_all}
use Rattle.std.proofs.Math.Seq.{drop-cons}
use Rattle.std.proofs.lemmas.Bool.Decides.{nat_tests}
use Rattle.ls_frame.specs.Netpbm.{is_digit, decimal_value}
use Rattle.ls_queue.specs.declared.steps.Step.{Step}
use Rattle.ls_replay.specs.declared.steps_file.Line.TheVariants as line
use Rattle.ls_replay.specs.StepsFile.{is_end}
use Rattle.ls_replay.specs.View.StepsReading.{lines_of, number_of, is_none, line_of, with_front, after_line, steps_from}

-- the front of a text up to its first LF, and the lines after it
pub line_and_rest : (text : List ℕ) → prefix_len (λ c. not (is_end c)) text < length text
    → lines_of text ≡ take (prefix_len (λ c. not (is_end c)) text) text ∷ lines_of (drop (prefix_len (λ c. not (is_end c)) text + 1) text)
line_and_rest [] inside = absurd (omega (arith, inside))
line_and_rest (c ∷ text) inside =
    let n = prefix_len (λ b. not (is_end b)) text in
    let P : Bool → Type 0 = λ b. cond (not b) (1 + n) 0 < suc (length text)
    → cond b ([] ∷ slice_split is_end text) (onto_first c (slice_split is_end text))
    ≡ take (cond (not b) (1 + n) 0) (c ∷ text) ∷ slice_split is_end (drop (cond (not b) (1 + n) 0 + 1) (c ∷ text)) in
    let both : P (is_end c) = elim (is_end c) as P [
      | true ↦ λ h. refl
      | false ↦ λ h.
          let one : 1 + n ≡ suc n = omega arith in
          let two : 1 + n + 1 ≡ suc (n + 1) = omega arith in
          ap (onto_first c) (line_and_rest text (omega (arith, h)))
          ∙ ap (λ k. take k (c ∷ text) ∷ slice_split is_end (drop (n + 1) text)) (sym one)
          ∙ ap (λ k. take (1 + n) (c ∷ text) ∷ slice_split is_end (drop k (c ∷ text))) (sym two)
    ] in
    both (omega (arith, inside))

pub line_alone : (text : List ℕ) → length text ≤ prefix_len (λ c. not (is_end c)) text → lines_of text ≡ text ∷ []
line_alone [] whole = refl
line_alone (c ∷ text) whole =
    let n = prefix_len (λ b. not (is_end b)) text in
    let P : Bool → Type 0 = λ b. suc (length text) ≤ cond (not b) (1 + n) 0 → cond b ([] ∷ slice_split is_end text) (onto_first c (slice_split is_end text)) ≡ (c ∷ text) ∷ [] in
    let both : P (is_end c) = elim (is_end c) as P [
      | true ↦ λ h. absurd (omega (arith, h))
      | false ↦ λ h. ap (onto_first c) (line_alone text (omega (arith, h)))
    ] in
    both (omega (arith, whole))

-- a fold over digits doesn't shrink
grows : (n : ℕ) (digits : List ℕ) → n ≤ fold (λ m digit. 10 * m + (digit - 48)) n digits
grows n [] = omega arith
grows n (digit ∷ digits) = omega (arith, grows (10 * n + (digit - 48)) digits)

-- no number: too large, or not of digits
pub number_of-large : (most n : ℕ) (word digits : List ℕ) → decimal_value word ≡ fold (λ m digit. 10 * m + (digit - 48)) n digits → most < n → number_of most word ≡ None
number_of-large most n word digits same large =
    let over : most < decimal_value word = omega (arith, grows n digits, same, large) in
    let no : nat_le (decimal_value word) most ≡ false = grind (arith, nat_tests) in
    elim (not (is_none word) && list_all is_digit word) as (λ b. (if b && nat_le (decimal_value word) most then Some (decimal_value word) else None) ≡ None) [ true ↦ ap (λ b. if b then Some (decimal_value word) else None) no | false ↦ refl ]

pub number_of-some : (most n : ℕ) (word : List ℕ) → 0 < length word → list_all is_digit word ≡ true → decimal_value word ≡ n → n ≤ most → number_of most word ≡ Some n
number_of-some most n word some digits same within =
    let there : is_none word ≡ false = grind (arith, nat_tests) in
    let yes : nat_le (decimal_value word) most ≡ true = grind (arith, nat_tests) in
    ap (λ b. if not b && list_all is_digit word && nat_le (decimal_value word) most then Some (decimal_value word) else None) there
    ∙ ap (λ b. if b && nat_le (decimal_value word) most then Some (decimal_value word) else None) digits
    ∙ ap (λ b. if b then Some (decimal_value word) else None) yes ∙ ap Some same

-- one digit more
pub digit_more : (word : List ℕ) (i d n : ℕ) → i < length word → decimal_value word ≡ fold (λ m digit. 10 * m + (digit - 48)) n (drop i word)
    → decimal_value word ≡ fold (λ m digit. 10 * m + (digit - 48)) (10 * n + (get_or word i d - 48)) (drop (i + 1) word)
digit_more word i d n inside same =
    same ∙ ap (fold (λ m digit. 10 * m + (digit - 48)) n) (drop-cons word i d inside ∙ ap (λ k. get_or word i d ∷ drop k word) (sym (add-one i)))

pub digits_more : (word : List ℕ) (i d : ℕ) → i < length word → list_all is_digit word ≡ list_all is_digit (drop i word)
    → list_all is_digit word ≡ (is_digit (get_or word i d) && list_all is_digit (drop (i + 1) word))
digits_more word i d inside same = same ∙ ap (list_all is_digit) (drop-cons word i d inside ∙ ap (λ k. get_or word i d ∷ drop k word) (sym (add-one i)))

pub with_front-with_front : (front back : List Step) (rest : Result (List Step) ℕ) → with_front front (with_front back rest) ≡ with_front (front ++ back) rest
with_front-with_front front back (Ok more) = ap Ok (sym (append_assoc front back more))
with_front-with_front front back (Err n) = refl

pub steps_from-step : (all : Result (List Step) ℕ) (steps after : List Step) (n : ℕ) (text : List ℕ) (lines : List (List ℕ)) (step : Step) → all ≡ with_front steps (steps_from n (text ∷ lines))
    → line.Step step ≡ line_of text → after ≡ steps ++ step ∷ [] → all ≡ with_front after (steps_from (n + 1) lines)
steps_from-step all steps after n text lines step same says grown =
    same ∙ ap (λ l. with_front steps (after_line n l (steps_from (n + 1) lines))) (sym says)
    ∙ with_front-with_front steps (step ∷ []) (steps_from (n + 1) lines) ∙ ap (λ front. with_front front (steps_from (n + 1) lines)) (sym grown)
