-- The spans of a row cover its columns from left to right.
use Rattle.std.proofs.Common.{◌≡◌, ℕ, zero, suc, ◌+◌, ◌-◌, ◌<◌, ◌≤◌, Bool, true, false, ltb, cond, List, [], ◌∷◌, ◌++◌, flat_map, refl, sym, ◌∙◌, ap, append-nil, inl, inr, arith}
use Rattle.std.specs.List.{range_with_len}
use Rattle.std.proofs.lemmas.Bool.{le-leb, lt-leb, lt-ltb, le-ltb, cases_lt, cond-true, cond-false}
use Rattle.ls_coding.specs.Contexts.{is_run}
use Rattle.ls_stream.specs.Planes.{Plane, around, left, run_length, Span, sample_span, run_span, span_columns, cut, row_spans}
use Rattle.ls_stream.proofs.CostLemmas.{longest}

range_split : (a m n : ℕ) → range_with_len a (m + n) ≡ range_with_len a m ++ range_with_len (a + m) n
range_split a zero n = let none : 0 + n ≡ n = omega arith in let same : a ≡ a + 0 = omega arith in ap (range_with_len a) none ∙ ap (λ b. range_with_len b n) same
range_split a (suc m) n =
    let more : suc m + n ≡ suc (m + n) = omega arith in
    let next : a + 1 + m ≡ a + suc m = omega arith in
    ap (range_with_len a) more ∙ ap (λ xs. a ∷ xs) (range_split (a + 1) m n ∙ ap (λ b. range_with_len (a + 1) m ++ range_with_len b n) next)

columns : List Span → List ℕ
columns spans = flat_map span_columns spans

-- no columns are left
none_left : (plane : Plane) (i most j : ℕ) → plane.width ≤ j → columns (cut plane i most j) ≡ []
unfolding columns
none_left plane i zero j h = refl
none_left plane i (suc most) j h = ap columns (cond-true _ _ _ (le-leb plane.width j h))

-- a span and what follows it cover what is left, where each does
run_covers : (plane : Plane) (i j count : ℕ) (rest : List Span) → j + count ≤ plane.width
    → columns rest ≡ range_with_len (j + count + 1) (plane.width - (j + count + 1))
    → columns (run_span i j count (ltb (j + count) plane.width) ∷ rest) ≡ range_with_len j (plane.width - j)
unfolding columns
run_covers plane i j count rest h covers =
    elim (cases_lt (j + count) plane.width) [
      | inl inside ↦
          let whole : plane.width - j ≡ (count + 1) + (plane.width - (j + count + 1)) = omega arith in
          let next : j + (count + 1) ≡ j + count + 1 = omega arith in
          ap (λ interrupted. span_columns (run_span i j count interrupted) ++ columns rest) (lt-ltb (j + count) plane.width inside)
          ∙ ap (λ xs. range_with_len j (count + 1) ++ xs) (covers ∙ sym (ap (λ b. range_with_len b (plane.width - (j + count + 1))) next))
          ∙ sym (ap (range_with_len j) whole ∙ range_split j (count + 1) (plane.width - (j + count + 1)))
      | inr outside ↦
          let whole : plane.width - j ≡ count = omega arith in
          let none : plane.width - (j + count + 1) ≡ 0 = omega arith in
          ap (λ interrupted. span_columns (run_span i j count interrupted) ++ columns rest) (le-ltb (j + count) plane.width outside)
          ∙ ap (λ xs. range_with_len j count ++ xs) (covers ∙ ap (range_with_len (j + count + 1)) none)
          ∙ append-nil (range_with_len j count) ∙ sym (ap (range_with_len j) whole)
    ]

sample_covers : (plane : Plane) (i j : ℕ) (rest : List Span) → j < plane.width → columns rest ≡ range_with_len (j + 1) (plane.width - (j + 1))
    → columns (sample_span i j ∷ rest) ≡ range_with_len j (plane.width - j)
unfolding columns
sample_covers plane i j rest h covers =
    let whole : plane.width - j ≡ suc (plane.width - (j + 1)) = omega arith in
    ap (λ xs. j ∷ xs) covers ∙ sym (ap (range_with_len j) whole)

by_mode : (plane : Plane) (i most j : ℕ) (mode : Bool) → j < plane.width
    → columns (cut plane i most (j + run_length plane i j + 1)) ≡ range_with_len (j + run_length plane i j + 1) (plane.width - (j + run_length plane i j + 1))
    → columns (cut plane i most (j + 1)) ≡ range_with_len (j + 1) (plane.width - (j + 1))
    → columns (cond mode (run_span i j (run_length plane i j) (ltb (j + run_length plane i j) plane.width) ∷ cut plane i most (j + run_length plane i j + 1)) (sample_span i j ∷ cut plane i most (j + 1)))
    ≡ range_with_len j (plane.width - j)
by_mode plane i most j true h run sample =
    run_covers plane i j (run_length plane i j) (cut plane i most (j + run_length plane i j + 1)) (omega (arith, (longest plane i (left plane i j) (plane.width - j) j).few)) run
by_mode plane i most j false h run sample = sample_covers plane i j (cut plane i most (j + 1)) h sample

covers_from : (plane : Plane) (i most j : ℕ) → plane.width ≤ most + j → columns (cut plane i most j) ≡ range_with_len j (plane.width - j)
covers_from plane i zero j h =
    let none : plane.width - j ≡ 0 = omega arith in
    none_left plane i 0 j (omega arith) ∙ sym (ap (range_with_len j) none)
covers_from plane i (suc most) j h =
    elim (cases_lt j plane.width) [
      | inl inside ↦
          ap columns (cond-false _ _ _ (lt-leb plane.width j inside))
          ∙ by_mode plane i most j (is_run (around plane i j)) inside (covers_from plane i most (j + run_length plane i j + 1) (omega arith)) (covers_from plane i most (j + 1) (omega arith))
      | inr outside ↦
          let none : plane.width - j ≡ 0 = omega arith in
          none_left plane i (suc most) j outside ∙ sym (ap (range_with_len j) none)
    ]

pub row_covered : (plane : Plane) (i : ℕ) → flat_map span_columns (row_spans plane i) ≡ range_with_len 0 plane.width
unfolding row_spans columns
row_covered plane i = let whole : plane.width - 0 ≡ plane.width = omega arith in covers_from plane i plane.width 0 (omega arith) ∙ ap (range_with_len 0) whole
