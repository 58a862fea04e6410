-- Rows at their places among other samples.
use Rattle.std.proofs.Common.{◌≡◌, ◌≢◌, ℕ, zero, suc, ◌+◌, ◌-◌, ◌*◌, ◌/◌, ◌%◌, ◌<◌, ◌≤◌, List, ◌++◌, length, take, drop, length-drop, get_or, inl, inr, sym, ◌∙◌, ap, arith}
use native.Mathlib.Numerals.{unary_clauses}
use Rattle.std.proofs.Math.Nat.{mod-lt, div-lt_iff_lt-mul}
use Rattle.std.proofs.Math.Seq.{take-append_seam}
use Rattle.std.proofs.lemmas.Bool.{cases_lt}
use Rattle.std.proofs.lemmas.Grind.{same_number_lists}
use Rattle.std.proofs.lemmas.List.{get_or-take, get_or-drop, get_or_append_left, get_or-append_right, length-take-le}
use Rattle.std.proofs.lemmas.Nat.{mul-le, div-add-mod'}
use Rattle.ls_c.specs.Forms.{rows_of, reach_of, KeepsGaps}
use Rattle.ls_c.proofs.RowLemmas.{rows_adjacent, rows_length}

-- ---- rows without gaps

pub adjacent_rows : (row stride height : ℕ) (places old : List ℕ) → stride ≡ row → length places ≡ height * row
    → rows_of row stride height (places ++ drop (height * row) old) ≡ places
adjacent_rows row stride height places old same count =
    ap (λ n. rows_of row n height (places ++ drop (height * row) old)) same
    ∙ rows_adjacent row height (places ++ drop (height * row) old)
    ∙ ap (λ n. take n (places ++ drop (height * row) old)) (sym count)
    ∙ take-append_seam places (drop (height * row) old)

pub adjacent_gaps : (row stride height : ℕ) (places old : List ℕ) → stride ≡ row → length places ≡ height * row
    → KeepsGaps row stride height old (places ++ drop (height * row) old)
adjacent_gaps row stride height places old same count k outside =
    elim (cases_lt k (height * row)) [
      | inl low ↦
          let some : 0 < row = elim (cases_lt 0 row) [ inl some ↦ some | inr none ↦ let nothing : height * row ≡ 0 = let zero : row ≡ 0 = omega arith in ap (λ n. height * n) zero ∙ omega arith in absurd (omega arith) ] in
          let split : k / row * row + k % row ≡ k = div-add-mod' k row in
          absurd (outside (k / row) (k % row) ((div-lt_iff_lt-mul some).1 low) (mod-lt k some) (sym split ∙ ap (λ n. k / row * n + k % row) (sym same)))
      | inr far ↦
          get_or-append_right places (drop (height * row) old) (height * row) k 0 count far
          ∙ get_or-drop (height * row) old (k - height * row) 0
          ∙ ap (λ n. get_or old n 0) (omega arith)
    ]

-- ---- rows at a stride

row_at : (row stride more : ℕ) (samples : List ℕ) (i j : ℕ) → row ≤ stride → more * stride + row ≤ length samples → i < suc more → j < row
    → get_or (rows_of row stride (suc more) samples) (i * row + j) 0 ≡ get_or samples (i * stride + j) 0
row_at row stride more samples zero j wide enough inside low =
    let few : row ≤ length samples = omega arith in
    ap (λ n. get_or (rows_of row stride (suc more) samples) n 0) (omega arith)
    ∙ get_or_append_left (take row samples) (rows_of row stride more (drop stride samples)) 0 j (omega (arith, length-take-le row samples few))
    ∙ get_or-take row samples j 0 low
    ∙ ap (λ n. get_or samples n 0) (omega arith)
row_at row stride zero samples (suc i) j wide enough inside low = absurd (omega arith)
row_at row stride (suc more) samples (suc i) j wide enough inside low =
    let few : row ≤ length samples = omega arith in
    let next : suc more * stride ≡ stride + more * stride = omega arith in
    let later : more * stride + row ≤ length (drop stride samples) = omega (arith, length-drop stride samples) in
    let place : suc i * row + j ≡ row + (i * row + j) = omega arith in
    ap (λ n. get_or (rows_of row stride (suc (suc more)) samples) n 0) place
    ∙ get_or-append_right (take row samples) (rows_of row stride (suc more) (drop stride samples)) row (row + (i * row + j)) 0 (length-take-le row samples few) (omega arith)
    ∙ ap (λ n. get_or (rows_of row stride (suc more) (drop stride samples)) n 0) (omega arith)
    ∙ row_at row stride more (drop stride samples) i j wide later (omega arith) low
    ∙ get_or-drop stride samples (i * stride + j) 0
    ∙ ap (λ n. get_or samples n 0) (omega arith)

rows_at : (row stride height : ℕ) (samples : List ℕ) (i j : ℕ) → row ≤ stride → reach_of row stride height ≤ length samples → i < height → j < row
    → get_or (rows_of row stride height samples) (i * row + j) 0 ≡ get_or samples (i * stride + j) 0
rows_at row stride zero samples i j wide enough inside low = absurd (omega arith)
rows_at row stride (suc more) samples i j wide enough inside low = row_at row stride more samples i j wide (simp unary_clauses at enough) inside low

pub spread_rows : (row stride height : ℕ) (apart new : List ℕ) → 0 < height → row ≤ stride → reach_of row stride height ≤ length new → length apart ≡ height * row
    → ((i j : ℕ) → i < height → j < row → get_or new (i * stride + j) 0 ≡ get_or apart (i * row + j) 0) → rows_of row stride height new ≡ apart
spread_rows row stride height apart new some wide enough count stored =
    let all : length (rows_of row stride height new) ≡ height * row = rows_length row stride height new some enough in
    same_number_lists (rows_of row stride height new) apart (all ∙ sym count)
    (λ k inside.
    let low : k < height * row = omega (arith, all) in
    let wide_enough : 0 < row = elim (cases_lt 0 row) [ inl some ↦ some | inr none ↦ let nothing : height * row ≡ 0 = let zero : row ≡ 0 = omega arith in ap (λ n. height * n) zero ∙ omega arith in absurd (omega arith) ] in
    let split : k / row * row + k % row ≡ k = div-add-mod' k row in
    let number : k / row < height = (div-lt_iff_lt-mul wide_enough).1 low in
    let column : k % row < row = mod-lt k wide_enough in
    ap (λ n. get_or (rows_of row stride height new) n 0) (sym split)
    ∙ rows_at row stride height new (k / row) (k % row) wide enough number column
    ∙ stored (k / row) (k % row) number column
    ∙ ap (λ n. get_or apart n 0) split)

-- ---- one more row

-- a place in a row is none in a later one
pub earlier_row : (row stride i j number column : ℕ) → row ≤ stride → i < number → j < row → i * stride + j ≢ number * stride + column
earlier_row row stride i j number column wide before low e =
    let rows : (i + 1) * stride ≤ number * stride = mul-le (i + 1) stride number stride (omega arith) (omega arith) in
    let next : (i + 1) * stride ≡ i * stride + stride = omega arith in
    absurd (omega arith)

pub row_inside : (row stride height number : ℕ) → number < height → number * stride + row ≤ reach_of row stride height
row_inside row stride height number inside =
    let rows : number * stride ≤ (height - 1) * stride = mul-le number stride (height - 1) stride (omega arith) (omega arith) in
    omega arith

pub row_of_all : (row height number : ℕ) → number < height → number * row + row ≤ height * row
row_of_all row height number inside =
    let rows : (number + 1) * row ≤ height * row = mul-le (number + 1) row height row (omega arith) (omega arith) in
    let next : (number + 1) * row ≡ number * row + row = omega arith in
    omega arith

-- without gaps they end no later
pub all_inside : (row stride height : ℕ) → 0 < height → row ≤ stride → height * row ≤ reach_of row stride height
all_inside row stride height some wide =
    let rows : (height - 1) * row ≤ (height - 1) * stride = mul-le (height - 1) row (height - 1) stride (omega arith) wide in
    let last : (height - 1 + 1) * row ≡ (height - 1) * row + row = omega arith in
    let all : height - 1 + 1 ≡ height = omega arith in
    let whole : (height - 1 + 1) * row ≡ height * row = ap (λ n. n * row) all in
    omega arith
