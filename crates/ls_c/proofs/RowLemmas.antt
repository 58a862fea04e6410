-- Rows that are copied together one by one.
use Rattle.std.proofs.Common.{◌≡◌, ℕ, zero, suc, ◌+◌, ◌-◌, ◌*◌, ◌<◌, ◌≤◌, List, [], ◌++◌, length, take, drop, sym, ◌∙◌, subst, append_assoc, append-nil, length-append, length-take, length-drop, ap, arith}
use native.Mathlib.Numerals.{unary_clauses}
use Rattle.std.proofs.Math.Seq.{take-add}
use Rattle.ls_c.specs.Forms.{rows_of, reach_of}

step : {A : Type 0} (row stride more : ℕ) (joined rest all : List A) → joined ++ rows_of row stride (suc more) rest ≡ all
    → (joined ++ take row rest) ++ rows_of row stride more (drop stride rest) ≡ all
step row stride more joined rest all e = append_assoc joined (take row rest) (rows_of row stride more (drop stride rest)) ∙ e

pub advanced : {A : Type 0} (row stride height number : ℕ) (joined new rest left all : List A) → number < height → new ≡ joined ++ take row rest → left ≡ drop stride rest
    → joined ++ rows_of row stride (height - number) rest ≡ all → new ++ rows_of row stride (height - (number + 1)) left ≡ all
advanced row stride height number joined new rest left all below new_is left_is e =
    let next : height - number ≡ suc (height - (number + 1)) = omega arith in
    let at_next : joined ++ rows_of row stride (suc (height - (number + 1))) rest ≡ all = subst (λ n. joined ++ rows_of row stride n rest ≡ all) next e in
    rw new_is (rw left_is (step row stride (height - (number + 1)) joined rest all at_next))

pub no_more : {A : Type 0} (row stride height number : ℕ) (joined rest all : List A) → height ≤ number → joined ++ rows_of row stride (height - number) rest ≡ all → joined ≡ all
no_more row stride height number joined rest all past e =
    let none : height - number ≡ 0 = omega arith in
    sym (append-nil joined) ∙ subst (λ n. joined ++ rows_of row stride n rest ≡ all) none e

rows_are : (row stride more : ℕ) (samples : List ℕ) → more * stride + row ≤ length samples → length (rows_of row stride (suc more) samples) ≡ suc more * row
rows_are row stride zero samples enough = omega (arith, length-append (take row samples) [], length-take row samples)
rows_are row stride (suc more) samples enough =
    let later : more * stride + row ≤ length (drop stride samples) = omega (arith, length-drop stride samples) in
    omega (arith, length-append (take row samples) (rows_of row stride (suc more) (drop stride samples)), length-take row samples, rows_are row stride more (drop stride samples) later)

pub rows_length : (row stride height : ℕ) (samples : List ℕ) → 0 < height → reach_of row stride height ≤ length samples → length (rows_of row stride height samples) ≡ height * row
rows_length row stride zero samples some enough = absurd (omega arith)
rows_length row stride (suc more) samples some enough = rows_are row stride more samples (simp unary_clauses at enough)

-- rows without gaps are the samples at the front
pub rows_adjacent : (row height : ℕ) (samples : List ℕ) → rows_of row row height samples ≡ take (height * row) samples
rows_adjacent row zero samples =
    let none : 0 * row ≡ 0 = omega arith in
    ap (λ n. take n samples) (sym none)
rows_adjacent row (suc more) samples =
    let whole : row + more * row ≡ suc more * row = omega arith in
    ap (λ rest. take row samples ++ rest) (rows_adjacent row more (drop row samples))
    ∙ sym (take-add row (more * row) samples)
    ∙ ap (λ count. take count samples) whole
