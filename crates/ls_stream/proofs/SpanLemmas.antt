-- The spans of a row, from left to right.
use Rattle.std.proofs.Common.{◌≡◌, ℕ, zero, suc, ◌+◌, ◌-◌, ◌<◌, ◌≤◌, Bool, true, false, cond, leb, ltb, [], ◌∷◌, ◌++◌, refl, sym, ◌∙◌, ap, arith}
use Rattle.std.proofs.lemmas.Bool.{le-leb, lt-leb, cond-true, cond-false}
use Rattle.ls_coding.specs.Contexts.{is_run}
use Rattle.ls_stream.specs.Planes.{Plane, around, run_length, Span, sample_span, run_span, cut, row_spans, row_from, rows_from}

-- ---- the samples of a run

room : (width j : ℕ) → j < width → width - j ≡ suc (width - (j + 1))
room width j h = omega arith

-- ---- spans

-- once enough spans are allowed, more change nothing
cut-enough : (plane : Plane) (i most more j : ℕ) → plane.width ≤ most + j → plane.width ≤ more + j → cut plane i most j ≡ cut plane i more j
cut-enough plane i zero zero j h k = refl
cut-enough plane i zero (suc more) j h k = sym (cond-true _ _ _ (le-leb plane.width j (omega arith)))
cut-enough plane i (suc most) zero j h k = cond-true _ _ _ (le-leb plane.width j (omega arith))
cut-enough plane i (suc most) (suc more) j h k =
    let count : ℕ = run_length plane i j in
    let run : Span = run_span i j count (ltb (j + count) plane.width) in
    ap (λ rest. cond (leb plane.width j) [] (cond (is_run (around plane i j)) (run ∷ rest) (sample_span i j ∷ cut plane i most (j + 1))))
    (cut-enough plane i most more (j + count + 1) (omega arith) (omega arith))
    ∙ ap (λ rest. cond (leb plane.width j) [] (cond (is_run (around plane i j)) (run ∷ cut plane i more (j + count + 1)) (sample_span i j ∷ rest)))
    (cut-enough plane i most more (j + 1) (omega arith) (omega arith))

pub row_from-start : (plane : Plane) (i : ℕ) → row_spans plane i ≡ row_from plane i 0
unfolding row_spans row_from
row_from-start plane i = cut-enough plane i plane.width (plane.width - 0) 0 (omega arith) (omega arith)

pub row_from-end : (plane : Plane) (i j : ℕ) → plane.width ≤ j → row_from plane i j ≡ []
unfolding row_from
row_from-end plane i j h = cut-enough plane i (plane.width - j) 0 j (omega arith) (omega arith)

pub row_from-sample : (plane : Plane) (i j : ℕ) → j < plane.width → is_run (around plane i j) ≡ false → row_from plane i j ≡ sample_span i j ∷ row_from plane i (j + 1)
unfolding row_from
row_from-sample plane i j h e =
    ap (λ most. cut plane i most j) (room plane.width j h)
    ∙ cond-false _ _ _ (lt-leb plane.width j h)
    ∙ cond-false _ _ _ e

row_from-run_span : (plane : Plane) (i j : ℕ) → j < plane.width → is_run (around plane i j) ≡ true
    → row_from plane i j ≡ run_span i j (run_length plane i j) (ltb (j + run_length plane i j) plane.width) ∷ row_from plane i (j + run_length plane i j + 1)
unfolding row_from
row_from-run_span plane i j h e =
    let count : ℕ = run_length plane i j in
    let run : Span = run_span i j count (ltb (j + count) plane.width) in
    ap (λ most. cut plane i most j) (room plane.width j h)
    ∙ cond-false _ _ _ (lt-leb plane.width j h)
    ∙ cond-true _ _ _ e
    ∙ ap (λ rest. run ∷ rest) (cut-enough plane i (plane.width - (j + 1)) (plane.width - (j + count + 1)) (j + count + 1) (omega arith) (omega arith))

-- the span of a run, by its count
pub row_from-run : (plane : Plane) (i j count : ℕ) (interrupted : Bool) → j < plane.width → is_run (around plane i j) ≡ true → count ≡ run_length plane i j → ltb (j + count) plane.width ≡ interrupted
    → row_from plane i j ≡ run_span i j count interrupted ∷ row_from plane i (j + count + 1)
row_from-run plane i j count interrupted inside is e f =
    row_from-run_span plane i j inside is
    ∙ ap (λ n. run_span i j n (ltb (j + n) plane.width) ∷ row_from plane i (j + n + 1)) (sym e)
    ∙ ap (λ b. run_span i j count b ∷ row_from plane i (j + count + 1)) f

-- ---- rows

pub rows_from-next : (plane : Plane) (rows i : ℕ) → i < rows → rows_from plane (rows - i) i ≡ row_spans plane i ++ rows_from plane (rows - (i + 1)) (i + 1)
rows_from-next plane rows i h =
    let left : rows - i ≡ suc (rows - (i + 1)) = omega arith in
    let next : suc i ≡ i + 1 = omega arith in
    ap (λ n. rows_from plane n i) left ∙ ap (λ m. row_spans plane i ++ rows_from plane (rows - (i + 1)) m) next
