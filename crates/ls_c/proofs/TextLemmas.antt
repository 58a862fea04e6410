-- Texts are short and have no byte 0.
use Rattle.std.proofs.Common.{◌≡◌, ℕ, zero, suc, ◌+◌, ◌/◌, ◌%◌, ◌^◌, ◌<◌, ◌≤◌, Bool, true, List, [], ◌∷◌, ◌++◌, length, refl, arith}
use Rattle.std.specs.Prelude.{◌&&◌, ◌||◌, ◌==◌, nat_lt, nat_le, slice_index_or, codes, decimal}
use Rattle.std.specs.List.{AllByRecursion, list_all}
use Rattle.std.proofs.lemmas.Bool.{and_parts, leb-true, ltb-true, ltb-false, cond_both}
use Rattle.std.proofs.lemmas.Fmt.{decimal_by_steps}
use Rattle.ls_c.specs.declared.form.JlsrecFault.{JlsrecFault}
use Rattle.ls_c.specs.Texts.{unknown, words, words_of, detail_of, digit, hexadecimal, detail_text, text_of}

-- no byte is 0
abbrev HasNoZero : List ℕ → Type 0
HasNoZero text = AllByRecursion (λ byte. 0 < byte) text

-- the same as a test
abbrev no_zero : List ℕ → Bool
no_zero text = list_all (λ byte. nat_lt 0 byte) text

has_none : (text : List ℕ) → no_zero text ≡ true → HasNoZero text
has_none [] all = tt
has_none (byte ∷ text) all =
    let parts = and_parts (nat_lt 0 byte) (no_zero text) all in
    (ltb-true 0 byte parts.0, has_none text parts.1)

append_none : (front rest : List ℕ) → HasNoZero front → HasNoZero rest → HasNoZero (front ++ rest)
append_none [] rest none more = more
append_none (byte ∷ front) rest none more = (none.0, append_none front rest none.1 more)

-- ---- words

-- words that are short and have no byte 0
abbrev good : List ℕ → Bool
good text = nat_le (length text) 48 && no_zero text

row_good : (rows : List (List ℕ)) (other : List ℕ) (i : ℕ) → list_all good rows ≡ true → good other ≡ true → good (slice_index_or rows i other) ≡ true
row_good [] other i all last = last
row_good (row ∷ rows) other zero all last = (and_parts (good row) (list_all good rows) all).0
row_good (row ∷ rows) other (suc i) all last = row_good rows other i (and_parts (good row) (list_all good rows) all).1 last

words_good : (status : ℕ) → good (words_of status) ≡ true
unfolding words_of
words_good status = row_good words unknown status refl refl

words_parts : (status : ℕ) → (nat_le (length (words_of status)) 48 ≡ true) × (no_zero (words_of status) ≡ true)
words_parts status = and_parts (nat_le (length (words_of status)) 48) (no_zero (words_of status)) (words_good status)

pub words_short : (status : ℕ) → length (words_of status) ≤ 48
words_short status = leb-true (length (words_of status)) 48 (words_parts status).0

-- ---- details

decimal_none : (n : ℕ) → n < 2 ^ 64 → HasNoZero (decimal n)
decimal_none n small =
    decimal_by_steps (λ _ digits. HasNoZero digits) (λ k low. (omega arith, tt)) (λ k digits high none. append_none digits _ none (omega arith, tt)) n small

digit_some : (n : ℕ) → 0 < digit n
digit_some n = cond_both (nat_lt n 10) (48 + n) (87 + n) (λ byte. 0 < byte) (λ _. omega arith) (λ _. omega arith)

detail_none : (status detail : ℕ) → detail ≤ 255 → HasNoZero (detail_text status detail)
detail_none status detail small =
    let number : HasNoZero (decimal detail) = decimal_none detail (omega (arith, small)) in
    cond_both (status == 23) (hexadecimal detail) _ HasNoZero (λ _. (digit_some (detail / 16), (digit_some (detail % 16), tt))) (λ _.
    cond_both (status == 24) (decimal detail ++ codes " components") _ HasNoZero (λ _. append_none (decimal detail) (codes " components") number (has_none (codes " components") refl)) (λ _.
    cond_both (status == 31 || status == 40 || status == 41) (decimal detail) [] HasNoZero (λ _. number) (λ _. tt)))

-- ---- texts

pub text_none : (status : ℕ) (fault : JlsrecFault) → AllByRecursion (λ byte. 0 < byte) (text_of status fault)
text_none status fault =
    let detail : ℕ = detail_of status fault in
    cond_both (nat_lt 255 detail) unknown (words_of status ++ detail_text status detail) HasNoZero (λ _. has_none unknown refl) (λ low.
    append_none (words_of status) (detail_text status detail) (has_none (words_of status) (words_parts status).1) (detail_none status detail (ltb-false 255 detail low)))
