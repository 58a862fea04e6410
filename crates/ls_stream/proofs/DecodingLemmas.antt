-- Reading a row: the planes that it may be of, after each span.
use Rattle.std.proofs.Common.{◌≡◌, ◌≢◌, ℕ, ◌+◌, ◌-◌, ◌*◌, ◌<◌, ◌≤◌, Bool, true, false, ltb, List, ◌∷◌, ◌++◌, length, get_or, inl, inr, refl, sym, ◌∙◌, ap, subst, append_assoc, ℤ, pos, neg_ℤ, ◌≤ℤ◌, arith}
use Rattle.std.proofs.Math.ListN.{set}
use Rattle.std.proofs.lemmas.Int.{ints}
use Rattle.std.proofs.lemmas.List.{get_or-set_same, get_or-set_other}
use mir.Syntax.{w16}
use mir.Val.{to_z, of_z}
use Rattle.std.proofs.lemmas.Bool.{ltb-true, ltb-false, cases_lt, lt-ltb, le-ltb}
use Rattle.ls_coding.specs.declared.neighbours.Neighbours.{Neighbours}
use Rattle.ls_coding.specs.Samples.{Interrupts}
use Rattle.ls_coding.specs.Contexts.{is_run}
use Rattle.ls_coding.specs.View.SignedContexts.{half_context}
use Rattle.ls_coding.specs.Interruptions.{ri_type_of, interruption_error}
use Rattle.ls_coding.specs.Runs.{run_of, run_bits}
use Rattle.ls_coding.specs.Events.{golomb_bits}
use Rattle.ls_coding.specs.View.States.{Coding, context_in, regular_error_in, regular_word_in, regular_after, run_after, interruption_word_in, interruption_after}
use Rattle.ls_frame.specs.Parameters.{Parameters}
use Rattle.ls_coding.proofs.ContextLemmas.{half_range}
use Rattle.ls_coding.proofs.FieldLemmas.{same_or_not}
use Rattle.ls_coding.proofs.SignedLemmas.{through_16}
use Rattle.ls_stream.specs.Planes.{Plane, at, around, left, run_length, Span, sample_span, run_span, row_from}
use Rattle.ls_stream.specs.View.LineBuffers.{HoldsLine, neighbours_in}
use Rattle.ls_stream.specs.View.Coded.{span_bits_in, span_after, bits_from, interrupting_sample_bits_in, interrupting_sample_after}
use Rattle.ls_stream.specs.View.Decoding.{HasSampleRow, Place, place, AreSamePlanes, IsNoPlane, EndsInLine, AreRepeated}
use Rattle.ls_stream.proofs.CostLemmas.{longest}
use Rattle.ls_stream.proofs.LineLemmas.{around_before}
use Rattle.ls_stream.proofs.RowLemmas.{equal_is}
use Rattle.ls_stream.proofs.SpanLemmas.{row_from-sample, row_from-run, row_from-end}

-- ---- the bits of the next span

pub first_span : (plane : Plane) (span : Span) (later more spans : List Span) (s : Coding) (rest : List Bool) → spans ≡ span ∷ later
    → bits_from plane (spans ++ more) s ++ rest ≡ span_bits_in plane span s ++ (bits_from plane (later ++ more) (span_after plane span s) ++ rest)
unfolding bits_from
first_span plane span later more spans s rest e =
    ap (λ xs. bits_from plane (xs ++ more) s ++ rest) e
    ∙ append_assoc (span_bits_in plane span s) (bits_from plane (later ++ more) (span_after plane span s)) rest

-- ---- buffers

-- a row's buffer up to a column, and what was read after it
pub record IsLonger (line new : List ℕ) (j : ℕ) : Type 0 where
  pub before : (k : ℕ) → k ≤ j → get_or new k 0 ≡ get_or line k 0

pub around_read : (plane : Plane) (i : ℕ) (above : List ℕ) (maxval width j end : ℕ) (line : List ℕ) → HasSampleRow maxval width plane i → j < width
    → HoldsLine plane i above → get_or line 0 0 ≡ left plane i 0 → ((c : ℕ) → c < end → get_or line (c + 1) 0 ≡ at plane i c) → j ≤ end
    → neighbours_in above line j ≡ around plane i j
around_read plane i above maxval width j end line row inside over first before reach =
    around_before plane i j end above line row.whole (omega (arith, row.width_is)) over first before reach

one_more : (plane : Plane) (i j x : ℕ) (line new : List ℕ) → IsLonger line new j → get_or new (j + 1) 0 ≡ x → at plane i j ≡ x
    → ((c : ℕ) → c < j → get_or line (c + 1) 0 ≡ at plane i c) → (c : ℕ) → c < j + 1 → get_or new (c + 1) 0 ≡ at plane i c
one_more plane i j x line new longer set is before c h =
    elim (cases_lt c j) [
      | inl earlier ↦ longer.before (c + 1) (omega arith) ∙ before c earlier
      | inr later ↦ let same : c ≡ j = omega arith in ap (λ n. get_or new (n + 1) 0) same ∙ set ∙ sym is ∙ ap (at plane i) (sym same)
    ]

one_less : (plane : Plane) (i j end : ℕ) (line new : List ℕ) → IsLonger line new j → j ≤ end
    → ((c : ℕ) → c < end → get_or new (c + 1) 0 ≡ at plane i c) → (c : ℕ) → c < j → get_or line (c + 1) 0 ≡ at plane i c
one_less plane i j end line new longer reach before c h = sym (longer.before (c + 1) (omega arith)) ∙ before c (omega arith)

-- ---- a sample of regular mode

-- its bits
abbrev word_of : Coding → Neighbours → ℕ → List Bool
word_of s n x = golomb_bits s.parameters (regular_word_in s n x)

-- only this sample can be read, and leaves these bits
abbrev pub IsOnlySample : ℕ → Coding → Neighbours → List Bool → ℕ → List Bool → Type 0
IsOnlySample maxval s n bits x new =
    (other : ℕ) (rest : List Bool) → other ≤ maxval → bits ≡ golomb_bits s.parameters (regular_word_in s n other) ++ rest
    → (other ≡ x) × (rest ≡ new)

regular_split : (plane : Plane) (i j maxval width : ℕ) (above line : List ℕ) (s : Coding) (n : Neighbours) (more : List Span) (rest : List Bool)
    → HasSampleRow maxval width plane i → j < width → n ≡ around plane i j → is_run n ≡ false
    → bits_from plane (row_from plane i j ++ more) s ++ rest
    ≡ word_of s n (at plane i j) ++ (bits_from plane (row_from plane i (j + 1) ++ more) (regular_after s (context_in s n).number (regular_error_in s n (at plane i j))) ++ rest)
regular_split plane i j maxval width above line s n more rest row inside e regular =
    first_span plane (sample_span i j) (row_from plane i (j + 1)) more (row_from plane i j) s rest
    (row_from-sample plane i j (omega (arith, row.width_is)) (sym (ap is_run e) ∙ regular))
    ∙ ap (λ (m : Neighbours). word_of s m (at plane i j) ++ (bits_from plane (row_from plane i (j + 1) ++ more) (regular_after s (context_in s m).number (regular_error_in s m (at plane i j))) ++ rest)) (sym e)

pub sample_read : (maxval width j x : ℕ) (above line new_line : List ℕ) (s after : Coding) (bits new : List Bool) (n : Neighbours) → j < width
    → n ≡ neighbours_in above line j → is_run n ≡ false
    → bits ≡ golomb_bits s.parameters (regular_word_in s n x) ++ new → after ≡ regular_after s (context_in s n).number (regular_error_in s n x)
    → IsOnlySample maxval s n bits x new → IsLonger line new_line j → get_or new_line (j + 1) 0 ≡ x
    → AreSamePlanes maxval width above (place j line s bits) (place (j + 1) new_line after new)
sample_read maxval width j x above line new_line s after bits new n inside e regular f g only longer set plane i row more rest = (
  λ m.
      let is : n ≡ around plane i j = e ∙ around_read plane i above maxval width j j line row inside m.over m.first m.before (omega arith) in
      let found = only (at plane i j) _ (row.small (i * plane.width + j)) (m.bits_are ∙ regular_split plane i j maxval width above line s n more rest row inside is regular) in
      record {
        over = m.over;
        first = longer.before 0 (omega arith) ∙ m.first;
        before = one_more plane i j x line new_line longer set found.0 m.before;
        bits_are = sym found.1
            ∙ ap (λ v. bits_from plane (row_from plane i (j + 1) ++ more) (regular_after s (context_in s n).number (regular_error_in s n v)) ++ rest) found.0
            ∙ ap (λ (t : Coding). bits_from plane (row_from plane i (j + 1) ++ more) t ++ rest) (sym g);
      },
  λ m.
      let before = one_less plane i j (j + 1) line new_line longer (omega arith) m.before in
      let first : get_or line 0 0 ≡ left plane i 0 = sym (longer.before 0 (omega arith)) ∙ m.first in
      let is : n ≡ around plane i j = e ∙ around_read plane i above maxval width j j line row inside m.over first before (omega arith) in
      let here : x ≡ at plane i j = sym set ∙ m.before j (omega arith) in
      record {
        over = m.over;
        first = first;
        before = before;
        bits_are = f
            ∙ ap (λ v. word_of s n x ++ v) (m.bits_are ∙ ap (λ (t : Coding). bits_from plane (row_from plane i (j + 1) ++ more) t ++ rest) g)
            ∙ ap (λ v. word_of s n v ++ (bits_from plane (row_from plane i (j + 1) ++ more) (regular_after s (context_in s n).number (regular_error_in s n v)) ++ rest)) here
            ∙ sym (regular_split plane i j maxval width above line s n more rest row inside is regular);
      },
)

pub no_sample : (maxval width j : ℕ) (above line : List ℕ) (s : Coding) (bits : List Bool) (n : Neighbours) → j < width
    → n ≡ neighbours_in above line j → is_run n ≡ false
    → ((other : ℕ) (rest : List Bool) → other ≤ maxval → bits ≡ golomb_bits s.parameters (regular_word_in s n other) ++ rest → ⊥)
    → IsNoPlane maxval width above (place j line s bits)
no_sample maxval width j above line s bits n inside e regular none plane i row more rest m =
    let is : n ≡ around plane i j = e ∙ around_read plane i above maxval width j j line row inside m.over m.first m.before (omega arith) in
    none (at plane i j) _ (row.small (i * plane.width + j)) (m.bits_are ∙ regular_split plane i j maxval width above line s n more rest row inside is regular)

-- ---- runs

-- the plane has this run from a column on
record HasRun (plane : Plane) (i j count : ℕ) (interrupted : Bool) : Type 0 where
  length_is : count ≡ run_length plane i j
  interrupted_is : ltb (j + count) plane.width ≡ interrupted

abbrev run_of_plane : Plane → ℕ → ℕ → Bool
run_of_plane plane i j = ltb (j + run_length plane i j) plane.width

ends : (plane : Plane) (i j width : ℕ) → plane.width ≡ width → j < width → EndsInLine (width - j) (run_length plane i j) (run_of_plane plane i j)
ends plane i j width e inside =
    let few = (longest plane i (left plane i j) (plane.width - j) j).few in
    record {
      full = λ h. let far = ltb-false (j + run_length plane i j) plane.width h in omega arith;
      short = λ h. let near_end = ltb-true (j + run_length plane i j) plane.width h in omega arith;
    }

-- the bits after those of a run
abbrev after_run : Plane → ℕ → ℕ → ℕ → Bool → Coding → List Span → List Bool → List Bool
after_run plane i j count true s more rest =
    interrupting_sample_bits_in plane i (j + count) (run_after s (run_of count true))
    ++ (bits_from plane (row_from plane i (j + count + 1) ++ more) (interrupting_sample_after plane i (j + count) (run_after s (run_of count true))) ++ rest)
after_run plane i j count false s more rest =
    bits_from plane (row_from plane i (j + count + 1) ++ more) (run_after s (run_of count false)) ++ rest

run_split : (plane : Plane) (i j count : ℕ) (interrupted : Bool) (s : Coding) (more : List Span) (rest : List Bool) → j < plane.width → is_run (around plane i j) ≡ true
    → HasRun plane i j count interrupted
    → bits_from plane (row_from plane i j ++ more) s ++ rest ≡ run_bits s.run_index (run_of count interrupted) ++ after_run plane i j count interrupted s more rest
run_split plane i j count true s more rest inside is has =
    first_span plane (run_span i j count true) (row_from plane i (j + count + 1)) more (row_from plane i j) s rest (row_from-run plane i j count true inside is has.length_is has.interrupted_is)
    ∙ append_assoc (run_bits s.run_index (run_of count true)) (interrupting_sample_bits_in plane i (j + count) (run_after s (run_of count true))) _
run_split plane i j count false s more rest inside is has =
    first_span plane (run_span i j count false) (row_from plane i (j + count + 1)) more (row_from plane i j) s rest (row_from-run plane i j count false inside is has.length_is has.interrupted_is)

-- only this run can be read, and leaves these bits
abbrev pub IsOnlyRun : ℕ → ℕ → List Bool → ℕ → Bool → List Bool → Type 0
IsOnlyRun left index bits count interrupted new =
    (other : ℕ) (ends : Bool) (rest : List Bool) → EndsInLine left other ends → bits ≡ run_bits index (run_of other ends) ++ rest
    → (other ≡ count) × (ends ≡ interrupted) × (rest ≡ new)

-- a plane that may be what is read has the run that was read
record Runs (plane : Plane) (i j count : ℕ) (interrupted : Bool) (s : Coding) (more : List Span) (rest new : List Bool) : Type 0 where
  has : HasRun plane i j count interrupted
  left_are : new ≡ after_run plane i j count interrupted s more rest
  equal : (c : ℕ) → j ≤ c → c < j + count → at plane i c ≡ left plane i j
  other : interrupted ≡ true → at plane i (j + count) ≢ left plane i j

pub run_equal : (plane : Plane) (i j count : ℕ) → count ≡ run_length plane i j → (c : ℕ) → j ≤ c → c < j + count → at plane i c ≡ left plane i j
run_equal plane i j count e c low high =
    let back : c ≡ j + (c - j) = omega arith in
    ap (at plane i) back ∙ (longest plane i (left plane i j) (plane.width - j) j).equal (c - j) (omega arith)

runs_in : (plane : Plane) (i j count width : ℕ) (interrupted : Bool) (s : Coding) (more : List Span) (bits rest new : List Bool) → plane.width ≡ width → j < width
    → is_run (around plane i j) ≡ true → bits ≡ bits_from plane (row_from plane i j ++ more) s ++ rest → IsOnlyRun (width - j) s.run_index bits count interrupted new
    → Runs plane i j count interrupted s more rest new
runs_in plane i j count width interrupted s more bits rest new e inside is f only =
    let length_of : ℕ = run_length plane i j in
    let ends_so : Bool = run_of_plane plane i j in
    let found = only length_of ends_so (after_run plane i j length_of ends_so s more rest) (ends plane i j width e inside)
    (f ∙ run_split plane i j length_of ends_so s more rest (omega arith) is (record { length_is = refl; interrupted_is = refl })) in
    let has : HasRun plane i j count interrupted = record { length_is = sym found.0; interrupted_is = ap (λ n. ltb (j + n) plane.width) (sym found.0) ∙ found.1 } in
    record {
      has = has;
      left_are = sym found.2 ∙ ap (λ n. after_run plane i j n ends_so s more rest) found.0 ∙ ap (λ b. after_run plane i j count b s more rest) found.1;
      equal = run_equal plane i j count (sym found.0);
      other = λ h.
          let near_end = ltb-true (j + count) plane.width (has.interrupted_is ∙ h) in
          subst (λ n. at plane i (j + n) ≢ left plane i j) found.0 ((longest plane i (left plane i j) (plane.width - j) j).other (omega arith));
    }

-- the samples of a run, in the row's buffer
repeated : (plane : Plane) (i j end : ℕ) (line new : List ℕ) → IsLonger line new j → get_or line j 0 ≡ left plane i j
    → ((c : ℕ) → j ≤ c → c < end → get_or new (c + 1) 0 ≡ get_or line j 0) → ((c : ℕ) → j ≤ c → c < end → at plane i c ≡ left plane i j)
    → ((c : ℕ) → c < j → get_or line (c + 1) 0 ≡ at plane i c) → (c : ℕ) → c < end → get_or new (c + 1) 0 ≡ at plane i c
repeated plane i j end line new longer value filled equal before c h =
    elim (cases_lt c j) [
      | inl earlier ↦ longer.before (c + 1) (omega arith) ∙ before c earlier
      | inr later ↦ filled c later h ∙ value ∙ sym (equal c later h)
    ]

pub value_of : (plane : Plane) (i j : ℕ) (above line : List ℕ) → neighbours_in above line j ≡ around plane i j → get_or line j 0 ≡ left plane i j
unfolding around
value_of plane i j above line e = ap (λ (n : Neighbours). n.a) e

-- a plane's run, by the samples in the buffer
pub run_in_buffer : (plane : Plane) (i j end : ℕ) → j ≤ end → end ≤ plane.width → ((c : ℕ) → j ≤ c → c < end → at plane i c ≡ left plane i j)
    → (end < plane.width → at plane i end ≢ left plane i j) → end - j ≡ run_length plane i j
run_in_buffer plane i j end low high equal other = sym (equal_is plane i (left plane i j) (plane.width - j) j end refl low high equal other)

pub run_read_to_end : (maxval width j count : ℕ) (above line new_line : List ℕ) (s after : Coding) (bits new : List Bool) → j < width → j + count ≡ width
    → is_run (neighbours_in above line j) ≡ true
    → bits ≡ run_bits s.run_index (run_of count false) ++ new → after ≡ run_after s (run_of count false)
    → IsOnlyRun (width - j) s.run_index bits count false new → IsLonger line new_line j
    → ((c : ℕ) → j ≤ c → c < j + count → get_or new_line (c + 1) 0 ≡ get_or line j 0)
    → AreSamePlanes maxval width above (place j line s bits) (place (j + count) new_line after new)
run_read_to_end maxval width j count above line new_line s after bits new inside whole is f g only longer filled plane i row more rest =
    let past : row_from plane i (j + count + 1) ≡ row_from plane i (j + count) = row_from-end plane i (j + count + 1) (omega (arith, row.width_is)) ∙ sym (row_from-end plane i (j + count) (omega (arith, row.width_is))) in (
      λ m.
          let e : neighbours_in above line j ≡ around plane i j = around_read plane i above maxval width j j line row inside m.over m.first m.before (omega arith) in
          let found = runs_in plane i j count width false s more bits rest new row.width_is inside (sym (ap is_run e) ∙ is) m.bits_are only in
          record {
            over = m.over;
            first = longer.before 0 (omega arith) ∙ m.first;
            before = repeated plane i j (j + count) line new_line longer (value_of plane i j above line e) filled found.equal m.before;
            bits_are = found.left_are
                ∙ ap (λ (t : Coding). bits_from plane (row_from plane i (j + count + 1) ++ more) t ++ rest) (sym g)
                ∙ ap (λ (xs : List Span). bits_from plane (xs ++ more) after ++ rest) past;
          },
      λ m.
          let before = one_less plane i j (j + count) line new_line longer (omega arith) m.before in
          let first : get_or line 0 0 ≡ left plane i 0 = sym (longer.before 0 (omega arith)) ∙ m.first in
          let e : neighbours_in above line j ≡ around plane i j = around_read plane i above maxval width j j line row inside m.over first before (omega arith) in
          let equal : (c : ℕ) → j ≤ c → c < j + count → at plane i c ≡ left plane i j = λ c low high. sym (m.before c high) ∙ filled c low high ∙ value_of plane i j above line e in
          let back : count ≡ j + count - j = omega arith in
          let has : HasRun plane i j count false = record {
            length_is = back ∙ run_in_buffer plane i j (j + count) (omega arith) (omega (arith, row.width_is)) equal (λ h. absurd (omega (arith, row.width_is)));
            interrupted_is = le-ltb (j + count) plane.width (omega (arith, row.width_is));
          } in
          record {
            over = m.over;
            first = first;
            before = before;
            bits_are = f
                ∙ ap (λ v. run_bits s.run_index (run_of count false) ++ v)
                (m.bits_are
                ∙ ap (λ (xs : List Span). bits_from plane (xs ++ more) after ++ rest) (sym past)
                ∙ ap (λ (t : Coding). bits_from plane (row_from plane i (j + count + 1) ++ more) t ++ rest) g)
                ∙ sym (run_split plane i j count false s more rest (omega (arith, row.width_is)) (sym (ap is_run e) ∙ is) has);
          },
    )

pub no_run : (maxval width j : ℕ) (above line : List ℕ) (s : Coding) (bits : List Bool) → j < width → is_run (neighbours_in above line j) ≡ true
    → ((other : ℕ) (ends : Bool) (rest : List Bool) → EndsInLine (width - j) other ends → bits ≡ run_bits s.run_index (run_of other ends) ++ rest → ⊥)
    → IsNoPlane maxval width above (place j line s bits)
no_run maxval width j above line s bits inside is none plane i row more rest m =
    let e : neighbours_in above line j ≡ around plane i j = around_read plane i above maxval width j j line row inside m.over m.first m.before (omega arith) in
    none (run_length plane i j) (run_of_plane plane i j) _ (ends plane i j width row.width_is inside)
    (m.bits_are ∙ run_split plane i j (run_length plane i j) (run_of_plane plane i j) s more rest (omega (arith, row.width_is)) (sym (ap is_run e) ∙ is) (record { length_is = refl; interrupted_is = refl }))

-- ---- the sample that interrupts a run

-- only this sample can be read, and leaves these bits
abbrev pub IsOnlyInterruption : ℕ → Coding → Neighbours → List Bool → ℕ → List Bool → Type 0
IsOnlyInterruption maxval s n bits x new =
    (other : ℕ) (rest : List Bool) → Interrupts maxval n.a other → bits ≡ golomb_bits s.parameters (interruption_word_in s n other) ++ rest
    → (other ≡ x) × (rest ≡ new)

-- the bits and the state of an interrupting sample, by its neighbours
abbrev interrupted_word : Coding → Neighbours → ℕ → List Bool
interrupted_word s n x = golomb_bits s.parameters (interruption_word_in s n x)

abbrev interrupted_state : Coding → Neighbours → ℕ → Coding
interrupted_state s n x = interruption_after s (ri_type_of n) (interruption_error s.parameters n x)

by_neighbours : (plane : Plane) (i e : ℕ) (s : Coding) (n : Neighbours) (more : List Span) (rest : List Bool) → n ≡ around plane i e
    → interrupting_sample_bits_in plane i e s ++ (bits_from plane (row_from plane i (e + 1) ++ more) (interrupting_sample_after plane i e s) ++ rest)
    ≡ interrupted_word s n (at plane i e) ++ (bits_from plane (row_from plane i (e + 1) ++ more) (interrupted_state s n (at plane i e)) ++ rest)
by_neighbours plane i e s n more rest is =
    ap (λ (m : Neighbours). interrupted_word s m (at plane i e) ++ (bits_from plane (row_from plane i (e + 1) ++ more) (interrupted_state s m (at plane i e)) ++ rest)) (sym is)

interrupts : (plane : Plane) (i j count maxval width : ℕ) (above line : List ℕ) (n : Neighbours) → HasSampleRow maxval width plane i
    → n ≡ neighbours_in above line (j + count) → get_or line (j + count) 0 ≡ left plane i j → at plane i (j + count) ≢ left plane i j
    → Interrupts maxval n.a (at plane i (j + count))
interrupts plane i j count maxval width above line n row e value other = record {
  within = row.small (i * plane.width + (j + count));
  other = λ h. other (h ∙ ap (λ (m : Neighbours). m.a) e ∙ value);
}

-- after a run's samples, the run's value is to the left of the next one
pub run_value_at : (j count : ℕ) (line new : List ℕ) (v : ℕ) → IsLonger line new j → get_or line j 0 ≡ v
    → ((c : ℕ) → j ≤ c → c < j + count → get_or new (c + 1) 0 ≡ get_or line j 0) → get_or new (j + count) 0 ≡ v
run_value_at j count line new v longer value filled =
    elim (cases_lt 0 count) [
      | inl some ↦ let last : j + count ≡ j + count - 1 + 1 = omega arith in ap (λ n. get_or new n 0) last ∙ filled (j + count - 1) (omega arith) (omega arith) ∙ value
      | inr none ↦ let same : j + count ≡ j = omega arith in ap (λ n. get_or new n 0) same ∙ longer.before j (omega arith) ∙ value
    ]

pub run_read_to_break : (maxval width j count x : ℕ) (above line mid_line new_line : List ℕ) (s after : Coding) (bits mid new : List Bool) (n : Neighbours)
    → j < width → j + count < width → is_run (neighbours_in above line j) ≡ true → n ≡ neighbours_in above mid_line (j + count)
    → bits ≡ run_bits s.run_index (run_of count true) ++ mid
    → mid ≡ golomb_bits s.parameters (interruption_word_in (run_after s (run_of count true)) n x) ++ new
    → after ≡ interruption_after (run_after s (run_of count true)) (ri_type_of n) (interruption_error s.parameters n x)
    → IsOnlyRun (width - j) s.run_index bits count true mid → IsOnlyInterruption maxval (run_after s (run_of count true)) n mid x new → x ≢ n.a
    → IsLonger line mid_line j → ((c : ℕ) → j ≤ c → c < j + count → get_or mid_line (c + 1) 0 ≡ get_or line j 0)
    → IsLonger mid_line new_line (j + count) → get_or new_line (j + count + 1) 0 ≡ x
    → AreSamePlanes maxval width above (place j line s bits) (place (j + count + 1) new_line after new)
run_read_to_break maxval width j count x above line mid_line new_line s after bits mid new n inside short is at_break f f' g only only_break differs longer filled longer' set plane i row more rest =
    let r : Coding = run_after s (run_of count true) in (
      λ m.
          let e : neighbours_in above line j ≡ around plane i j = around_read plane i above maxval width j j line row inside m.over m.first m.before (omega arith) in
          let found = runs_in plane i j count width true s more bits rest mid row.width_is inside (sym (ap is_run e) ∙ is) m.bits_are only in
          let before = repeated plane i j (j + count) line mid_line longer (value_of plane i j above line e) filled found.equal m.before in
          let first : get_or mid_line 0 0 ≡ left plane i 0 = longer.before 0 (omega arith) ∙ m.first in
          let next : n ≡ around plane i (j + count) = at_break ∙ around_read plane i above maxval width (j + count) (j + count) mid_line row short m.over first before (omega arith) in
          let value : get_or mid_line (j + count) 0 ≡ left plane i j = run_value_at j count line mid_line (left plane i j) longer (value_of plane i j above line e) filled in
          let last = only_break (at plane i (j + count)) _ (interrupts plane i j count maxval width above mid_line n row at_break value (found.other refl))
          (found.left_are ∙ by_neighbours plane i (j + count) r n more rest next) in
          record {
            over = m.over;
            first = longer'.before 0 (omega arith) ∙ first;
            before = one_more plane i (j + count) x mid_line new_line longer' set last.0 before;
            bits_are = sym last.1
                ∙ ap (λ v. bits_from plane (row_from plane i (j + count + 1) ++ more) (interrupted_state r n v) ++ rest) last.0
                ∙ ap (λ (t : Coding). bits_from plane (row_from plane i (j + count + 1) ++ more) t ++ rest) (sym g);
          },
      λ m.
          let before' = one_less plane i (j + count) (j + count + 1) mid_line new_line longer' (omega arith) m.before in
          let first' : get_or mid_line 0 0 ≡ left plane i 0 = sym (longer'.before 0 (omega arith)) ∙ m.first in
          let before = one_less plane i j (j + count) line mid_line longer (omega arith) before' in
          let first : get_or line 0 0 ≡ left plane i 0 = sym (longer.before 0 (omega arith)) ∙ first' in
          let e : neighbours_in above line j ≡ around plane i j = around_read plane i above maxval width j j line row inside m.over first before (omega arith) in
          let next : n ≡ around plane i (j + count) = at_break ∙ around_read plane i above maxval width (j + count) (j + count) mid_line row short m.over first' before' (omega arith) in
          let equal : (c : ℕ) → j ≤ c → c < j + count → at plane i c ≡ left plane i j = λ c low high. sym (before' c high) ∙ filled c low high ∙ value_of plane i j above line e in
          let value : get_or mid_line (j + count) 0 ≡ left plane i j = run_value_at j count line mid_line (left plane i j) longer (value_of plane i j above line e) filled in
          let here : x ≡ at plane i (j + count) = sym set ∙ m.before (j + count) (omega arith) in
          let left_is : n.a ≡ left plane i j = ap (λ (q : Neighbours). q.a) at_break ∙ value in
          let other : at plane i (j + count) ≢ left plane i j = λ h. differs (here ∙ h ∙ sym left_is) in
          let back : count ≡ j + count - j = omega arith in
          let has : HasRun plane i j count true = record {
            length_is = back ∙ run_in_buffer plane i j (j + count) (omega arith) (omega (arith, row.width_is)) equal (λ h. other);
            interrupted_is = lt-ltb (j + count) plane.width (omega (arith, row.width_is));
          } in
          record {
            over = m.over;
            first = first;
            before = before;
            bits_are = f
                ∙ ap (λ v. run_bits s.run_index (run_of count true) ++ v)
                (f'
                ∙ ap (λ v. interrupted_word r n x ++ v) (m.bits_are ∙ ap (λ (t : Coding). bits_from plane (row_from plane i (j + count + 1) ++ more) t ++ rest) g)
                ∙ ap (λ v. interrupted_word r n v ++ (bits_from plane (row_from plane i (j + count + 1) ++ more) (interrupted_state r n v) ++ rest)) here
                ∙ sym (by_neighbours plane i (j + count) r n more rest next))
                ∙ sym (run_split plane i j count true s more rest (omega (arith, row.width_is)) (sym (ap is_run e) ∙ is) has);
          },
    )

pub no_break : (maxval width j count : ℕ) (above line mid_line : List ℕ) (s : Coding) (bits mid : List Bool) (n : Neighbours)
    → j < width → j + count < width → is_run (neighbours_in above line j) ≡ true → n ≡ neighbours_in above mid_line (j + count)
    → IsOnlyRun (width - j) s.run_index bits count true mid
    → ((other : ℕ) (rest : List Bool) → Interrupts maxval n.a other → mid ≡ golomb_bits s.parameters (interruption_word_in (run_after s (run_of count true)) n other) ++ rest → ⊥)
    → IsLonger line mid_line j → ((c : ℕ) → j ≤ c → c < j + count → get_or mid_line (c + 1) 0 ≡ get_or line j 0)
    → IsNoPlane maxval width above (place j line s bits)
no_break maxval width j count above line mid_line s bits mid n inside short is at_break only none longer filled plane i row more rest m =
    let r : Coding = run_after s (run_of count true) in
    let e : neighbours_in above line j ≡ around plane i j = around_read plane i above maxval width j j line row inside m.over m.first m.before (omega arith) in
    let found = runs_in plane i j count width true s more bits rest mid row.width_is inside (sym (ap is_run e) ∙ is) m.bits_are only in
    let before = repeated plane i j (j + count) line mid_line longer (value_of plane i j above line e) filled found.equal m.before in
    let first : get_or mid_line 0 0 ≡ left plane i 0 = longer.before 0 (omega arith) ∙ m.first in
    let next : n ≡ around plane i (j + count) = at_break ∙ around_read plane i above maxval width (j + count) (j + count) mid_line row short m.over first before (omega arith) in
    let value : get_or mid_line (j + count) 0 ≡ left plane i j = run_value_at j count line mid_line (left plane i j) longer (value_of plane i j above line e) filled in
    none (at plane i (j + count)) _ (interrupts plane i j count maxval width above mid_line n row at_break value (found.other refl))
    (found.left_are ∙ by_neighbours plane i (j + count) r n more rest next)

-- ---- in the form of the contracts

pub half_through : (z : ℤ) → neg_ℤ (pos 360) ≤ℤ z → z ≤ℤ pos 360 → to_z w16 (of_z w16 z) ≡ z
half_through z low high = through_16 z (omega (arith, ints, low)) (omega (arith, ints, high))

-- a row's buffer with one sample more
pub is_longer : (line : List ℕ) (j x : ℕ) → IsLonger line (set line (j + 1) x) j
is_longer line j x = record { before = λ k h. get_or-set_other line (j + 1) k x 0 (λ e. absurd (omega arith)) }

pub small_more : (maxval place x : ℕ) (line : List ℕ) → ((k : ℕ) → get_or line k 0 ≤ maxval) → x ≤ maxval → place < length line → (k : ℕ) → get_or (set line place x) k 0 ≤ maxval
small_more maxval place x line small h inside k =
    elim (same_or_not k place) [
      | inl same ↦ subst (λ n. get_or (set line place x) n 0 ≤ maxval) (sym same) (subst (λ v. v ≤ maxval) (sym (get_or-set_same line place x 0 inside)) h)
      | inr other ↦ subst (λ v. v ≤ maxval) (sym (get_or-set_other line place k x 0 (λ e. other e))) (small k)
    ]

pub small_repeated : (maxval column end : ℕ) (line new : List ℕ) → ((k : ℕ) → get_or line k 0 ≤ maxval) → AreRepeated line column end new → (k : ℕ) → get_or new k 0 ≤ maxval
small_repeated maxval column end line new small repeated k =
    elim (repeated.others k) [
      | inl same ↦ subst (λ v. v ≤ maxval) (sym same) (small k)
      | inr left ↦ subst (λ v. v ≤ maxval) (sym left) (small column)
    ]

pub longer_by_run : (column end : ℕ) (line new : List ℕ) → AreRepeated line column end new → IsLonger line new column
longer_by_run column end line new repeated = record { before = repeated.before }

-- from one place to another
pub same_on : (maxval width : ℕ) (above : List ℕ) (one two three : Place) → AreSamePlanes maxval width above one two → AreSamePlanes maxval width above two three → AreSamePlanes maxval width above one three
same_on maxval width above one two three f g plane i row more rest =
    (λ m. (g plane i row more rest).0 ((f plane i row more rest).0 m), λ m. (f plane i row more rest).1 ((g plane i row more rest).1 m))

-- half of a context, passed on unchanged
pub half_passed : (p : Parameters) (b c d : ℕ) (z : ℤ) → z ≡ half_context p b c d → to_z w16 (of_z w16 z) ≡ half_context p b c d
half_passed p b c d z e =
    let range = half_range p b c d in
    ap (λ x. to_z w16 (of_z w16 x)) e ∙ half_through (half_context p b c d) range.0 range.1
