-- The bits so far and those to come, while a row is coded.
use Rattle.std.proofs.Common.{◌≡◌, ◌≢◌, ℕ, zero, suc, ◌+◌, ◌-◌, ◌*◌, ◌<◌, ◌≤◌, Bool, true, false, List, ◌∷◌, ◌++◌, get_or, eq-eqb, inl, inr, refl, sym, ◌∙◌, ap, subst, append_assoc, arith}
use Rattle.std.proofs.lemmas.Bool.{lt-ltb, le-ltb, cases_lt, cond-true, cond-false, ne_eqb}
use Rattle.ls_coding.specs.declared.neighbours.Neighbours.{Neighbours}
use Rattle.ls_coding.specs.declared.word.Word.{Word}
use Rattle.ls_coding.specs.Contexts.{is_run}
use Rattle.ls_coding.specs.Interruptions.{ri_type_of, interruption_error}
use Rattle.ls_coding.specs.Runs.{run_of, run_bits}
use Rattle.ls_coding.specs.Events.{golomb_bits}
use Rattle.ls_coding.specs.View.States.{Coding, context_in, regular_error_in, regular_word_in, regular_after, run_after, interruption_word_in, interruption_after}
use Rattle.ls_stream.specs.Planes.{Plane, at, around, left, equal_from, run_length, Span, sample_span, run_span, row_from}
use Rattle.ls_stream.specs.View.LineBuffers.{neighbours_in, AreLines, IsRunEnd}
use Rattle.ls_stream.specs.View.Coded.{span_bits_in, span_after, bits_from, all_from}
use Rattle.ls_stream.proofs.SpanLemmas.{row_from-sample, row_from-run}

-- a span's bits move from those to come to those so far
moved : (plane : Plane) (span : Span) (rest more spans : List Span) (bits new : List Bool) (s after : Coding) → spans ≡ span ∷ rest
    → new ≡ bits ++ span_bits_in plane span s → after ≡ span_after plane span s
    → all_from plane new after (rest ++ more) ≡ all_from plane bits s (spans ++ more)
unfolding bits_from
moved plane span rest more spans bits new s after e f g =
    ap (λ x. x ++ bits_from plane (rest ++ more) after) f
    ∙ ap (λ (t : Coding). (bits ++ span_bits_in plane span s) ++ bits_from plane (rest ++ more) t) g
    ∙ append_assoc bits (span_bits_in plane span s) (bits_from plane (rest ++ more) (span_after plane span s))
    ∙ ap (λ xs. bits ++ bits_from plane (xs ++ more) s) (sym e)

-- a sample of regular mode
pub sample-moved : (plane : Plane) (i j : ℕ) (bits new : List Bool) (s after : Coding) (n : Neighbours) (x : ℕ) → j < plane.width
    → n ≡ around plane i j → x ≡ at plane i j → is_run n ≡ false
    → new ≡ bits ++ golomb_bits s.parameters (regular_word_in s n x) → after ≡ regular_after s (context_in s n).number (regular_error_in s n x)
    → (more : List Span) → all_from plane new after (row_from plane i (j + 1) ++ more) ≡ all_from plane bits s (row_from plane i j ++ more)
sample-moved plane i j bits new s after n x inside e f regular h k more =
    moved plane (sample_span i j) (row_from plane i (j + 1)) more (row_from plane i j) bits new s after
    (row_from-sample plane i j inside (sym (ap is_run e) ∙ regular))
    (h ∙ ap (λ (w : Word). bits ++ golomb_bits s.parameters w) (ap (λ (m : Neighbours). regular_word_in s m x) e ∙ ap (regular_word_in s (around plane i j)) f))
    (k ∙ ap (λ (m : Neighbours). regular_after s (context_in s m).number (regular_error_in s m x)) e ∙ ap (λ v. regular_after s (context_in s (around plane i j)).number (regular_error_in s (around plane i j) v)) f)

-- a run up to the line's end
pub run-moved : (plane : Plane) (i j count : ℕ) (bits new : List Bool) (s after : Coding) (n : Neighbours) → j < plane.width → plane.width ≤ j + count
    → n ≡ around plane i j → is_run n ≡ true → count ≡ run_length plane i j
    → new ≡ bits ++ run_bits s.run_index (run_of count false) → after ≡ run_after s (run_of count false)
    → (more : List Span) → all_from plane new after (row_from plane i (j + count + 1) ++ more) ≡ all_from plane bits s (row_from plane i j ++ more)
run-moved plane i j count bits new s after n inside far e is f h k more =
    moved plane (run_span i j count false) (row_from plane i (j + count + 1)) more (row_from plane i j) bits new s after
    (row_from-run plane i j count false inside (sym (ap is_run e) ∙ is) f (le-ltb (j + count) plane.width far)) h k

-- a run, and the sample that interrupts it
pub interrupted-moved : (plane : Plane) (i j count : ℕ) (bits new : List Bool) (s after : Coding) (n m : Neighbours) (x : ℕ)
    → j < plane.width → j + count < plane.width → n ≡ around plane i j → is_run n ≡ true → count ≡ run_length plane i j
    → m ≡ around plane i (j + count) → x ≡ at plane i (j + count)
    → new ≡ bits ++ (run_bits s.run_index (run_of count true) ++ golomb_bits s.parameters (interruption_word_in (run_after s (run_of count true)) m x))
    → after ≡ interruption_after (run_after s (run_of count true)) (ri_type_of m) (interruption_error s.parameters m x)
    → (more : List Span) → all_from plane new after (row_from plane i (j + count + 1) ++ more) ≡ all_from plane bits s (row_from plane i j ++ more)
interrupted-moved plane i j count bits new s after n m x inside before_end e is f a b d l more =
    let r : Coding = run_after s (run_of count true) in
    moved plane (run_span i j count true) (row_from plane i (j + count + 1)) more (row_from plane i j) bits new s after
    (row_from-run plane i j count true inside (sym (ap is_run e) ∙ is) f (lt-ltb (j + count) plane.width before_end))
    (d ∙ ap (λ (w : Word). bits ++ (run_bits s.run_index (run_of count true) ++ golomb_bits s.parameters w))
    (ap (λ (y : Neighbours). interruption_word_in r y x) a ∙ ap (interruption_word_in r (around plane i (j + count))) b))
    (l ∙ ap (λ (y : Neighbours). interruption_after r (ri_type_of y) (interruption_error s.parameters y x)) a
    ∙ ap (λ v. interruption_after r (ri_type_of (around plane i (j + count))) (interruption_error s.parameters (around plane i (j + count)) v)) b)

-- ---- how long a run is

pub left_around : (plane : Plane) (i j : ℕ) → (around plane i j).a ≡ left plane i j
unfolding around
left_around plane i j = refl

pub equal_is : (plane : Plane) (i v most j end : ℕ) → most ≡ plane.width - j → j ≤ end → end ≤ plane.width → ((k : ℕ) → j ≤ k → k < end → at plane i k ≡ v)
    → (end < plane.width → at plane i end ≢ v) → equal_from plane i v most j ≡ end - j
equal_is plane i v zero j end e low high equal other = omega arith
equal_is plane i v (suc most) j end e low high equal other =
    elim (cases_lt j end) [
      | inl more ↦
          let count : suc (end - suc j) ≡ end - j = omega arith in
          cond-true _ _ _ (eq-eqb (at plane i j) v (equal j (omega arith) more))
          ∙ ap suc (equal_is plane i v most (suc j) end (omega arith) more high (λ k l h. equal k (omega arith) h) other) ∙ count
      | inr far ↦
          let same : end ≡ j = omega arith in
          let none : 0 ≡ end - j = omega arith in
          cond-false _ _ _ (ne_eqb (at plane i j) v (λ f. other (omega arith) (ap (at plane i) same ∙ f))) ∙ none
    ]

pub run_is : (plane : Plane) (i j end : ℕ) (above line : List ℕ) → AreLines plane i above line → j < plane.width → IsRunEnd line plane.width j end → end - j ≡ run_length plane i j
run_is plane i j end above line lines inside h =
    let value : get_or line j 0 ≡ left plane i j = ap (λ (n : Neighbours). n.a) (lines.neighbours j inside) ∙ left_around plane i j in
    sym (equal_is plane i (left plane i j) (plane.width - j) j end refl h.low h.high
    (λ k l m. sym (lines.samples k (omega (arith, h.high))) ∙ h.equal k l m ∙ value)
    (λ neighbours_in e. h.other neighbours_in (lines.samples end neighbours_in ∙ e ∙ sym value)))

-- ---- in the form of the code, by the column after the run

-- the sample to the left of that column has the run's value
pub run_value : (line : List ℕ) (width j end : ℕ) → IsRunEnd line width j end → get_or line end 0 ≡ get_or line j 0
run_value line width j end h =
    elim (cases_lt j end) [
      | inl more ↦
          let last : end ≡ end - 1 + 1 = omega arith in
          ap (λ n. get_or line n 0) last ∙ h.equal (end - 1) (omega arith) (omega arith)
      | inr none ↦ let same : end ≡ j = omega (arith, h.low) in ap (λ n. get_or line n 0) same
    ]

of_plane : (line : List ℕ) (width j end : ℕ) (plane : Plane) → plane.width ≡ width → IsRunEnd line width j end → IsRunEnd line plane.width j end
of_plane line width j end plane e h = subst (λ w. IsRunEnd line w j end) (sym e) h

pub row_to_end : (plane : Plane) (i j end : ℕ) (above line : List ℕ) (bits new : List Bool) (s after : Coding) (n : Neighbours) (width : ℕ) → plane.width ≡ width → AreLines plane i above line
    → j < width → IsRunEnd line width j end → end ≡ width → n ≡ neighbours_in above line j → is_run n ≡ true
    → new ≡ bits ++ run_bits s.run_index (run_of (end - j) false) → after ≡ run_after s (run_of (end - j) false)
    → (more : List Span) → all_from plane new after (row_from plane i (end + 1) ++ more) ≡ all_from plane bits s (row_from plane i j ++ more)
row_to_end plane i j end above line bits new s after n width same lines inside h whole e is f g more =
    let back : end ≡ j + (end - j) = omega (arith, h.low) in
    let within : j < plane.width = omega arith in
    ap (λ m. all_from plane new after (row_from plane i (m + 1) ++ more)) back
    ∙ run-moved plane i j (end - j) bits new s after n within (omega (arith, h.low)) (e ∙ lines.neighbours j within) is
    (run_is plane i j end above line lines within (of_plane line width j end plane same h)) f g more

pub row_to_break : (plane : Plane) (i j end : ℕ) (above line : List ℕ) (bits new : List Bool) (s after : Coding) (n m : Neighbours) (width : ℕ) → plane.width ≡ width → AreLines plane i above line
    → j < width → IsRunEnd line width j end → end < width → n ≡ neighbours_in above line j → is_run n ≡ true → m ≡ neighbours_in above line end
    → new ≡ bits ++ (run_bits s.run_index (run_of (end - j) true) ++ golomb_bits s.parameters (interruption_word_in (run_after s (run_of (end - j) true)) m (get_or line (end + 1) 0)))
    → after ≡ interruption_after (run_after s (run_of (end - j) true)) (ri_type_of m) (interruption_error s.parameters m (get_or line (end + 1) 0))
    → (more : List Span) → all_from plane new after (row_from plane i (end + 1) ++ more) ≡ all_from plane bits s (row_from plane i j ++ more)
row_to_break plane i j end above line bits new s after n m width same lines inside h short e is d f g more =
    let back : end ≡ j + (end - j) = omega (arith, h.low) in
    let within : j < plane.width = omega arith in
    let near_end : end < plane.width = omega arith in
    ap (λ k. all_from plane new after (row_from plane i (k + 1) ++ more)) back
    ∙ interrupted-moved plane i j (end - j) bits new s after n m (get_or line (end + 1) 0) within (omega (arith, h.low)) (e ∙ lines.neighbours j within) is
    (run_is plane i j end above line lines within (of_plane line width j end plane same h))
    (d ∙ lines.neighbours end near_end ∙ ap (around plane i) back) (lines.samples end near_end ∙ ap (at plane i) back) f g more

pub spent : (limit a b c : ℕ) → a + b ≡ c → limit * a + limit * b ≡ limit * c
spent limit a b c e = let sum : limit * a + limit * b ≡ limit * (a + b) = omega arith in sum ∙ ap (λ n. limit * n) e
