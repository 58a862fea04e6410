-- How bits break in a row: after some spans of it, at the next one.
use Rattle.std.proofs.Common.{◌≡◌, ◌≢◌, ℕ, ◌+◌, ◌-◌, ◌<◌, ◌≤◌, Bool, true, false, ltb, List, ◌∷◌, ◌++◌, get_or, inl, inr, refl, sym, ◌∙◌, ap, subst, append_assoc, arith}
use Rattle.std.proofs.lemmas.Bool.{cases_lt, lt-ltb, le-ltb}
use Rattle.ls_bits.specs.declared.source.CodeFault.{CodeFault}
use Rattle.ls_coding.specs.declared.neighbours.Neighbours.{Neighbours}
use Rattle.ls_coding.specs.Contexts.{is_run}
use Rattle.ls_coding.specs.Interruptions.{ri_type_of, interruption_error}
use Rattle.ls_coding.specs.Runs.{run_of, run_bits}
use Rattle.ls_coding.specs.Events.{golomb_bits}
use Rattle.ls_coding.specs.View.States.{Coding, context_in, regular_error_in, regular_word_in, regular_after, run_after, interruption_word_in, interruption_after}
use Rattle.ls_stream.specs.Planes.{Plane, at, around, left, run_length, Span, sample_span, run_span, row_from}
use Rattle.ls_stream.specs.View.BitFaults.{BreaksSample, BreaksInterruption, BreaksRun, BreaksSpan, BreaksSpans}
use Rattle.ls_stream.specs.View.LineBuffers.{neighbours_in}
use Rattle.ls_stream.specs.View.Coded.{span_bits_in, span_after}
use Rattle.ls_stream.specs.View.Decoding.{HasSampleRow, place, HoldsRowTo, BreaksLater, BreaksFrom}
use Rattle.ls_stream.proofs.CostLemmas.{longest}
use Rattle.ls_stream.proofs.DecodingLemmas.{IsLonger, around_read, value_of, run_in_buffer, run_value_at}
use Rattle.ls_stream.proofs.SpanLemmas.{row_from-sample, row_from-run, row_from-end}

-- ---- the next span

breaks_here : (plane : Plane) (span : Span) (later more spans : List Span) (s : Coding) (bits : List Bool) (fault : CodeFault) → spans ≡ span ∷ later → BreaksSpan plane span s bits fault
    → BreaksSpans plane (spans ++ more) s bits fault
unfolding BreaksSpans
breaks_here plane span later more spans s bits fault e malformed = subst (λ (xs : List Span). BreaksSpans plane (xs ++ more) s bits fault) (sym e) (inl malformed)

breaks_after : (plane : Plane) (span : Span) (later more spans : List Span) (s : Coding) (bits new : List Bool) (fault : CodeFault) → spans ≡ span ∷ later
    → bits ≡ span_bits_in plane span s ++ new → BreaksSpans plane (later ++ more) (span_after plane span s) new fault → BreaksSpans plane (spans ++ more) s bits fault
unfolding BreaksSpans
breaks_after plane span later more spans s bits new fault e f malformed = subst (λ (xs : List Span). BreaksSpans plane (xs ++ more) s bits fault) (sym e) (inr (new, f, malformed))

-- what a longer buffer holds, a shorter one does
holds_shorter : (plane : Plane) (i : ℕ) (above line new : List ℕ) (column end : ℕ) → IsLonger line new column → column ≤ end → HoldsRowTo plane i above new end
    → HoldsRowTo plane i above line column
holds_shorter plane i above line new column end longer reach holds = record {
  over = holds.over;
  first = sym (longer.before 0 (omega arith)) ∙ holds.first;
  before = λ c h. sym (longer.before (c + 1) (omega arith)) ∙ holds.before c (omega arith);
}

around_held : (plane : Plane) (i : ℕ) (above line : List ℕ) (maxval width j : ℕ) → HasSampleRow maxval width plane i → j < width → HoldsRowTo plane i above line j
    → neighbours_in above line j ≡ around plane i j
around_held plane i above line maxval width j row inside holds = around_read plane i above maxval width j j line row inside holds.over holds.first holds.before (omega arith)

-- ---- a sample of regular mode

pub sample_malformed : (maxval width j : ℕ) (above line : List ℕ) (s : Coding) (bits : List Bool) (n : Neighbours) (fault : CodeFault) → j < width → n ≡ neighbours_in above line j → is_run n ≡ false
    → ((k : ℕ) → get_or line k 0 ≤ maxval) → BreaksSample s n bits fault → BreaksFrom maxval width above (place j line s bits) fault
sample_malformed maxval width j above line s bits n fault inside e regular small malformed = record {
  column = j;
  line = line;
  inside = inside;
  on = omega arith;
  kept = λ k h. refl;
  small = small;
  breaks = λ plane i row holds more.
      let is : n ≡ around plane i j = e ∙ around_held plane i above line maxval width j row inside holds in
      breaks_here plane (sample_span i j) (row_from plane i (j + 1)) more (row_from plane i j) s bits fault
      (row_from-sample plane i j (omega (arith, row.width_is)) (sym (ap is_run is) ∙ regular)) (subst (λ (m : Neighbours). BreaksSample s m bits fault) is malformed);
}

pub sample_later : (maxval width j x : ℕ) (above line new_line : List ℕ) (s after : Coding) (bits new : List Bool) (n : Neighbours) → j < width → n ≡ neighbours_in above line j → is_run n ≡ false
    → bits ≡ golomb_bits s.parameters (regular_word_in s n x) ++ new → after ≡ regular_after s (context_in s n).number (regular_error_in s n x)
    → IsLonger line new_line j → get_or new_line (j + 1) 0 ≡ x → BreaksLater maxval width above (place j line s bits) (place (j + 1) new_line after new)
sample_later maxval width j x above line new_line s after bits new n inside e regular f g longer set = record {
  on = omega arith;
  kept = longer.before;
  later = λ plane i row holds more fault malformed.
      let is : n ≡ around plane i j = e ∙ around_held plane i above line maxval width j row inside (holds_shorter plane i above line new_line j (j + 1) longer (omega arith) holds) in
      let here : x ≡ at plane i j = sym set ∙ holds.before j (omega arith) in
      breaks_after plane (sample_span i j) (row_from plane i (j + 1)) more (row_from plane i j) s bits new fault
      (row_from-sample plane i j (omega (arith, row.width_is)) (sym (ap is_run is) ∙ regular))
      (f ∙ ap (λ v. golomb_bits s.parameters (regular_word_in s n v) ++ new) here ∙ ap (λ (m : Neighbours). golomb_bits s.parameters (regular_word_in s m (at plane i j)) ++ new) is)
      (subst (λ (t : Coding). BreaksSpans plane (row_from plane i (j + 1) ++ more) t new fault)
      (g ∙ ap (λ v. regular_after s (context_in s n).number (regular_error_in s n v)) here ∙ ap (λ (m : Neighbours). regular_after s (context_in s m).number (regular_error_in s m (at plane i j))) is) malformed);
}

-- ---- a run

pub run_malformed : (maxval width j : ℕ) (above line : List ℕ) (s : Coding) (bits : List Bool) (fault : CodeFault) → j < width → is_run (neighbours_in above line j) ≡ true
    → ((k : ℕ) → get_or line k 0 ≤ maxval) → BreaksRun s.run_index (width - j) bits fault → BreaksFrom maxval width above (place j line s bits) fault
run_malformed maxval width j above line s bits fault inside is small malformed = record {
  column = j;
  line = line;
  inside = inside;
  on = omega arith;
  kept = λ k h. refl;
  small = small;
  breaks = λ plane i row holds more.
      let e = around_held plane i above line maxval width j row inside holds in
      breaks_here plane (run_span i j (run_length plane i j) (ltb (j + run_length plane i j) plane.width)) (row_from plane i (j + run_length plane i j + 1)) more (row_from plane i j) s bits fault
      (row_from-run plane i j (run_length plane i j) (ltb (j + run_length plane i j) plane.width) (omega (arith, row.width_is)) (sym (ap is_run e) ∙ is) refl refl)
      (inl (subst (λ w. BreaksRun s.run_index (w - j) bits fault) (sym row.width_is) malformed));
}

-- a run's samples in the buffer are those of the plane
equal_held : (plane : Plane) (i j end : ℕ) (above line new : List ℕ) → neighbours_in above line j ≡ around plane i j → HoldsRowTo plane i above new end
    → ((c : ℕ) → j ≤ c → c < end → get_or new (c + 1) 0 ≡ get_or line j 0) → (c : ℕ) → j ≤ c → c < end → at plane i c ≡ left plane i j
equal_held plane i j end above line new e holds filled c low high = sym (holds.before c high) ∙ filled c low high ∙ value_of plane i j above line e

pub run_later_to_end : (maxval width j count : ℕ) (above line new_line : List ℕ) (s after : Coding) (bits new : List Bool) → j < width → j + count ≡ width
    → is_run (neighbours_in above line j) ≡ true → bits ≡ run_bits s.run_index (run_of count false) ++ new → after ≡ run_after s (run_of count false)
    → IsLonger line new_line j → ((c : ℕ) → j ≤ c → c < j + count → get_or new_line (c + 1) 0 ≡ get_or line j 0)
    → BreaksLater maxval width above (place j line s bits) (place (j + count) new_line after new)
run_later_to_end maxval width j count above line new_line s after bits new inside whole is f g longer filled = record {
  on = omega arith;
  kept = longer.before;
  later = λ plane i row holds more fault malformed.
      let e = around_held plane i above line maxval width j row inside (holds_shorter plane i above line new_line j (j + count) longer (omega arith) holds) in
      let equal = equal_held plane i j (j + count) above line new_line e holds filled in
      let back : count ≡ j + count - j = omega arith in
      let past : row_from plane i (j + count + 1) ≡ row_from plane i (j + count) =
      row_from-end plane i (j + count + 1) (omega (arith, row.width_is)) ∙ sym (row_from-end plane i (j + count) (omega (arith, row.width_is))) in
      breaks_after plane (run_span i j count false) (row_from plane i (j + count + 1)) more (row_from plane i j) s bits new fault
      (row_from-run plane i j count false (omega (arith, row.width_is)) (sym (ap is_run e) ∙ is)
      (back ∙ run_in_buffer plane i j (j + count) (omega arith) (omega (arith, row.width_is)) equal (λ h. absurd (omega (arith, row.width_is))))
      (le-ltb (j + count) plane.width (omega (arith, row.width_is)))) f
      (subst (λ (t : Coding). BreaksSpans plane (row_from plane i (j + count + 1) ++ more) t new fault) g
      (subst (λ (xs : List Span). BreaksSpans plane (xs ++ more) after new fault) (sym past) malformed));
}

-- ---- the sample that interrupts a run

pub run_later_to_break : (maxval width j count x : ℕ) (above line mid_line new_line : List ℕ) (s after : Coding) (bits mid new : List Bool) (n : Neighbours)
    → j < width → j + count < width → is_run (neighbours_in above line j) ≡ true → n ≡ neighbours_in above mid_line (j + count)
    → bits ≡ run_bits s.run_index (run_of count true) ++ mid
    → mid ≡ golomb_bits s.parameters (interruption_word_in (run_after s (run_of count true)) n x) ++ new
    → after ≡ interruption_after (run_after s (run_of count true)) (ri_type_of n) (interruption_error s.parameters n x)
    → x ≢ n.a → IsLonger line mid_line j → ((c : ℕ) → j ≤ c → c < j + count → get_or mid_line (c + 1) 0 ≡ get_or line j 0)
    → IsLonger mid_line new_line (j + count) → get_or new_line (j + count + 1) 0 ≡ x
    → BreaksLater maxval width above (place j line s bits) (place (j + count + 1) new_line after new)
run_later_to_break maxval width j count x above line mid_line new_line s after bits mid new n inside short is at_break f f' g differs longer filled longer' set =
    let r : Coding = run_after s (run_of count true) in
    record {
      on = omega arith;
      kept = λ k h. longer'.before k (omega arith) ∙ longer.before k h;
      later = λ plane i row holds more fault malformed.
          let mid_holds = holds_shorter plane i above mid_line new_line (j + count) (j + count + 1) longer' (omega arith) holds in
          let e = around_held plane i above line maxval width j row inside (holds_shorter plane i above line mid_line j (j + count) longer (omega arith) mid_holds) in
          let next : n ≡ around plane i (j + count) = at_break ∙ around_held plane i above mid_line maxval width (j + count) row short mid_holds in
          let equal = equal_held plane i j (j + count) above line mid_line e mid_holds filled in
          let value : get_or mid_line (j + count) 0 ≡ left plane i j = run_value_at j count line mid_line (left plane i j) longer (value_of plane i j above line e) filled in
          let here : x ≡ at plane i (j + count) = sym set ∙ holds.before (j + count) (omega arith) in
          let left_is : n.a ≡ left plane i j = ap (λ (q : Neighbours). q.a) at_break ∙ value in
          let other : at plane i (j + count) ≢ left plane i j = λ h. differs (here ∙ h ∙ sym left_is) in
          let back : count ≡ j + count - j = omega arith in
          let word : Neighbours → ℕ → List Bool = λ m v. golomb_bits s.parameters (interruption_word_in r m v) in
          breaks_after plane (run_span i j count true) (row_from plane i (j + count + 1)) more (row_from plane i j) s bits new fault
          (row_from-run plane i j count true (omega (arith, row.width_is)) (sym (ap is_run e) ∙ is)
          (back ∙ run_in_buffer plane i j (j + count) (omega arith) (omega (arith, row.width_is)) equal (λ h. other))
          (lt-ltb (j + count) plane.width (omega (arith, row.width_is))))
          (f ∙ ap (λ v. run_bits s.run_index (run_of count true) ++ v) (f' ∙ ap (λ v. word n v ++ new) here ∙ ap (λ m. word m (at plane i (j + count)) ++ new) next)
          ∙ sym (append_assoc (run_bits s.run_index (run_of count true)) (word (around plane i (j + count)) (at plane i (j + count))) new))
          (subst (λ (t : Coding). BreaksSpans plane (row_from plane i (j + count + 1) ++ more) t new fault)
          (g ∙ ap (λ v. interruption_after r (ri_type_of n) (interruption_error s.parameters n v)) here
          ∙ ap (λ (m : Neighbours). interruption_after r (ri_type_of m) (interruption_error s.parameters m (at plane i (j + count)))) next) malformed);
    }

-- the state before it, by another name
pub interruption_in : (s t : Coding) (n : Neighbours) (bits : List Bool) (fault : CodeFault) → s ≡ t → BreaksInterruption s n bits fault → BreaksInterruption t n bits fault
interruption_in s t n bits fault e malformed = subst (λ (x : Coding). BreaksInterruption x n bits fault) e malformed

pub interruption_malformed : (maxval width j count : ℕ) (above line mid_line : List ℕ) (s : Coding) (bits mid : List Bool) (n : Neighbours) (fault : CodeFault)
    → j < width → j + count < width → is_run (neighbours_in above line j) ≡ true → n ≡ neighbours_in above mid_line (j + count)
    → bits ≡ run_bits s.run_index (run_of count true) ++ mid → IsLonger line mid_line j → ((c : ℕ) → j ≤ c → c < j + count → get_or mid_line (c + 1) 0 ≡ get_or line j 0)
    → ((k : ℕ) → get_or mid_line k 0 ≤ maxval) → BreaksInterruption (run_after s (run_of count true)) n mid fault → BreaksFrom maxval width above (place j line s bits) fault
interruption_malformed maxval width j count above line mid_line s bits mid n fault inside short is at_break f longer filled small malformed =
    let r : Coding = run_after s (run_of count true) in
    record {
      column = j + count;
      line = mid_line;
      inside = short;
      on = omega arith;
      kept = longer.before;
      small = small;
      breaks = λ plane i row holds more.
          let e = around_held plane i above line maxval width j row inside (holds_shorter plane i above line mid_line j (j + count) longer (omega arith) holds) in
          let next : n ≡ around plane i (j + count) = at_break ∙ around_held plane i above mid_line maxval width (j + count) row short holds in
          let equal = equal_held plane i j (j + count) above line mid_line e holds filled in
          let most : ℕ = run_length plane i j in
          let few : count ≤ most = elim (cases_lt most count) [
            | inl less ↦
                absurd ((longest plane i (left plane i j) (plane.width - j) j).other (omega (arith, row.width_is)) (equal (j + most) (omega arith) (omega arith)))
            | inr enough ↦ enough
          ] in
          breaks_here plane (run_span i j most (ltb (j + most) plane.width)) (row_from plane i (j + most + 1)) more (row_from plane i j) s bits fault
          (row_from-run plane i j most (ltb (j + most) plane.width) (omega (arith, row.width_is)) (sym (ap is_run e) ∙ is) refl refl)
          (inr (count, mid, few, omega (arith, row.width_is), f, subst (λ (m : Neighbours). BreaksInterruption r m mid fault) next malformed));
    }
