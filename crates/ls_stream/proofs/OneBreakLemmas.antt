-- Bits that break in a plane break in one way: two planes with whose first spans the bits begin agree on the samples of these spans, and
-- then on the fault.
use Rattle.std.proofs.Common.{◌≡◌, ℕ, zero, suc, ◌+◌, ◌-◌, ◌*◌, ◌<◌, ◌≤◌, Bool, true, false, cond, ltb, List, [], ◌∷◌, ◌++◌, get_or, ◌⊎◌, inl, inr, refl, sym, ◌∙◌, ap, subst, append_assoc, arith}
use Rattle.std.proofs.lemmas.Bool.{false≢true, ltb-true, ltb-false, cases_lt}
use Rattle.ls_frame.specs.Parameters.{Parameters, IsLegal}
use Rattle.ls_bits.specs.declared.source.CodeFault.{CodeFault}
use Rattle.ls_coding.specs.declared.neighbours.Neighbours.{Neighbours}
use Rattle.ls_coding.specs.Samples.{AreSamples, Interrupts}
use Rattle.ls_coding.specs.Contexts.{is_run}
use Rattle.ls_coding.specs.Interruptions.{ri_type_of, interruption_error}
use Rattle.ls_coding.specs.Runs.{Run, run_of, run_bits}
use Rattle.ls_coding.specs.Events.{Event, run, interrupted_after_events, golomb_bits}
use Rattle.ls_coding.specs.Lawful.{IsLawful, none}
use Rattle.ls_coding.specs.View.States.{Coding, state_of, context_in, regular_error_in, regular_word_in, regular_after, run_after, interruption_word_in, interruption_after}
use Rattle.ls_coding.proofs.StateLemmas.{state_of-run}
use Rattle.ls_stream.specs.Planes.{Plane, at, around, left, above, above_left, above_right, run_length, Span, sample_span, run_span, row_from, rows_from, spans, sample_event, interrupting_sample_event}
use Rattle.ls_stream.specs.View.BitFaults.{BreaksSample, BreaksInterruption, BreaksRun, BreaksSpan, BreaksSpans, BreaksPlane}
use Rattle.ls_stream.specs.View.Coded.{sample_after, span_bits_in, span_after, interrupting_sample_bits_in, interrupting_sample_after}
use Rattle.ls_stream.specs.View.Decoding.{EndsInLine}
use Rattle.ls_stream.proofs.CodedLemmas.{last_of, sample_after-same, interrupting_sample_after-same, sample_uninterrupted, break_uninterrupted}
use Rattle.ls_stream.proofs.CostLemmas.{AreSmall, around_small, interrupted_run, longest}
use Rattle.ls_stream.proofs.OneRunLemmas.{one_run_fault, no_run, one_sample_fault, one_interruption_fault, no_sample_word, no_interruption_word}
use Rattle.ls_stream.proofs.PlaneLaws.{run_once, only_sample, only_break, lawful_sample, lawful_run, lawful_break}
use Rattle.ls_stream.proofs.ScanReadingLemmas.{all_spans}
use Rattle.ls_stream.proofs.SpanLemmas.{row_from-start, row_from-end, row_from-sample, row_from-run}

-- ---- planes that agree so far

-- the first samples of two planes of one width
record Agree (maxval : ℕ) (one other : Plane) (count : ℕ) : Type 0 where
  widths : one.width ≡ other.width
  small : AreSmall maxval one
  small' : AreSmall maxval other
  same : (k : ℕ) → k < count → get_or one.samples k 0 ≡ get_or other.samples k 0

agree_less : (maxval : ℕ) (one other : Plane) (count fewer : ℕ) → Agree maxval one other count → fewer ≤ count → Agree maxval one other fewer
agree_less maxval one other count fewer a h = record { widths = a.widths; small = a.small; small' = a.small'; same = λ k l. a.same k (omega arith) }

at_same : (maxval : ℕ) (one other : Plane) (count i j : ℕ) → Agree maxval one other count → i * one.width + j < count → at one i j ≡ at other i j
at_same maxval one other count i j a h = a.same (i * one.width + j) h ∙ ap (λ w. get_or other.samples (i * w + j) 0) a.widths

-- a row above another one
row_above : (i width : ℕ) → suc i * width ≡ i * width + width
row_above i width = omega arith

above_same : (maxval : ℕ) (one other : Plane) (count i j : ℕ) → Agree maxval one other count → i * one.width ≤ count → j < one.width → above one i j ≡ above other i j
above_same maxval one other count zero j a h inside = refl
above_same maxval one other count (suc i) j a h inside = at_same maxval one other count i j a (omega (arith, row_above i one.width))

left_same : (maxval : ℕ) (one other : Plane) (count i j : ℕ) → Agree maxval one other count → i * one.width + j ≤ count → 0 < one.width → left one i j ≡ left other i j
left_same maxval one other count i zero a h some = above_same maxval one other count i 0 a (omega arith) some
left_same maxval one other count i (suc j) a h some = at_same maxval one other count i j a (omega arith)

above_left_same : (maxval : ℕ) (one other : Plane) (count i j : ℕ) → Agree maxval one other count → i * one.width ≤ count → j < one.width → above_left one i j ≡ above_left other i j
above_left_same maxval one other count zero j a h inside = refl
above_left_same maxval one other count (suc i) zero a h inside = left_same maxval one other count i 0 a (omega (arith, row_above i one.width)) (omega arith)
above_left_same maxval one other count (suc i) (suc j) a h inside = at_same maxval one other count i j a (omega (arith, row_above i one.width))

either_same : (test : Bool) (x y x' y' : ℕ) → (test ≡ true → x ≡ x') → (test ≡ false → y ≡ y') → cond test x y ≡ cond test x' y'
either_same true x y x' y' h k = h refl
either_same false x y x' y' h k = k refl

above_right_same : (maxval : ℕ) (one other : Plane) (count i j : ℕ) → Agree maxval one other count → i * one.width ≤ count → j < one.width → above_right one i j ≡ above_right other i j
above_right_same maxval one other count i j a h inside =
    either_same (ltb (j + 1) one.width) (above one i (j + 1)) (above one i j) (above other i (j + 1)) (above other i j)
    (λ e. above_same maxval one other count i (j + 1) a h (ltb-true (j + 1) one.width e))
    (λ e. above_same maxval one other count i j a h inside)
    ∙ ap (λ w. cond (ltb (j + 1) w) (above other i (j + 1)) (above other i j)) a.widths

neighbours_of : ℕ → ℕ → ℕ → ℕ → Neighbours
neighbours_of a b c d = record { a = a; b = b; c = c; d = d }

around_same : (maxval : ℕ) (one other : Plane) (i j : ℕ) → Agree maxval one other (i * one.width + j) → j < one.width → around one i j ≡ around other i j
unfolding around neighbours_of
around_same maxval one other i j agree inside =
    let n : ℕ = i * one.width + j in
    ap (λ v. neighbours_of v (above one i j) (above_left one i j) (above_right one i j)) (left_same maxval one other n i j agree (omega arith) (omega arith))
    ∙ ap (λ v. neighbours_of (left other i j) v (above_left one i j) (above_right one i j)) (above_same maxval one other n i j agree (omega arith) inside)
    ∙ ap (λ v. neighbours_of (left other i j) (above other i j) v (above_right one i j)) (above_left_same maxval one other n i j agree (omega arith) inside)
    ∙ ap (neighbours_of (left other i j) (above other i j) (above_left other i j)) (above_right_same maxval one other n i j agree (omega arith) inside)

-- one more sample
agree_more : (maxval : ℕ) (one other : Plane) (i j : ℕ) → Agree maxval one other (i * one.width + j) → at one i j ≡ at other i j → Agree maxval one other (i * one.width + (j + 1))
agree_more maxval one other i j a e = record {
  widths = a.widths;
  small = a.small;
  small' = a.small';
  same = λ k h. elim (cases_lt k (i * one.width + j)) [
    | inl before ↦ a.same k before
    | inr last ↦
        let here : k ≡ i * one.width + j = omega arith in
        ap (λ n. get_or one.samples n 0) here ∙ e ∙ ap (λ w. get_or other.samples (i * w + j) 0) (sym a.widths) ∙ ap (λ n. get_or other.samples n 0) (sym here)
  ];
}

-- more samples that equal the one to their left, in both
agree_run : (maxval : ℕ) (one other : Plane) (i j count : ℕ) → Agree maxval one other (i * one.width + j) → left one i j ≡ left other i j
    → count ≤ run_length one i j → count ≤ run_length other i j → Agree maxval one other (i * one.width + (j + count))
agree_run maxval one other i j count a e few few' =
    let here = longest one i (left one i j) (one.width - j) j in
    let there = longest other i (left other i j) (other.width - j) j in
    record {
      widths = a.widths;
      small = a.small;
      small' = a.small';
      same = λ k h. elim (cases_lt k (i * one.width + j)) [
        | inl before ↦ a.same k before
        | inr later ↦
            let d : ℕ = k - (i * one.width + j) in
            let place : k ≡ i * one.width + (j + d) = omega arith in
            ap (λ n. get_or one.samples n 0) place ∙ here.equal d (omega arith) ∙ e ∙ sym (there.equal d (omega arith))
            ∙ ap (λ w. get_or other.samples (i * w + (j + d)) 0) (sym a.widths) ∙ ap (λ n. get_or other.samples n 0) (sym place)
      ];
    }

-- ---- where a span is due

-- it breaks, or the bits begin with its bits, and a later one breaks
next_span : (plane : Plane) (span : Span) (later more spans : List Span) (s : Coding) (bits : List Bool) (fault : CodeFault) → spans ≡ span ∷ later
    → BreaksSpans plane (spans ++ more) s bits fault
    → BreaksSpan plane span s bits fault ⊎ ((new : List Bool) × (bits ≡ span_bits_in plane span s ++ new) × BreaksSpans plane (later ++ more) (span_after plane span s) new fault)
unfolding BreaksSpans
next_span plane span later more spans s bits fault e malformed = subst (λ (xs : List Span). BreaksSpans plane (xs ++ more) s bits fault) e malformed

-- Both break at one place, with one fault; or the bits begin with both rows, and break later.
record BreakLater (p : Parameters) (one other : Plane) (i : ℕ) (more more' : List Span) (f g : CodeFault) : Type 0 where
  events : List Event
  bits : List Bool
  lawful : IsLawful p events
  uninterrupted : interrupted_after_events events ≡ false
  agree : Agree p.maxval one other (i * one.width + one.width)
  first : BreaksSpans one more (state_of p events) bits f
  second : BreaksSpans other more' (state_of p events) bits g

abbrev Meets : Parameters → Plane → Plane → ℕ → List Span → List Span → CodeFault → CodeFault → Type 0
Meets p one other i more more' f g = (f ≡ g) ⊎ BreakLater p one other i more more' f g

-- from a column on, within this number of columns
abbrev MeetFrom : ℕ → Type 0
MeetFrom most =
    (p : Parameters) (one other : Plane) (i j : ℕ) (events : List Event) (bits : List Bool) (more more' : List Span) (f g : CodeFault) → IsLegal p → IsLawful p events
    → interrupted_after_events events ≡ false → Agree p.maxval one other (i * one.width + j) → j ≤ one.width → one.width ≤ most + j
    → BreaksSpans one (row_from one i j ++ more) (state_of p events) bits f → BreaksSpans other (row_from other i j ++ more') (state_of p events) bits g
    → Meets p one other i more more' f g

-- ---- a sample of regular mode

-- the state after it, by what is around it
sample_after-by : (s : Coding) (n m : Neighbours) (x y : ℕ) → n ≡ m → x ≡ y
    → regular_after s (context_in s n).number (regular_error_in s n x) ≡ regular_after s (context_in s m).number (regular_error_in s m y)
sample_after-by s n m x y e f =
    ap (λ (k : Neighbours). regular_after s (context_in s k).number (regular_error_in s k x)) e
    ∙ ap (λ v. regular_after s (context_in s m).number (regular_error_in s m v)) f

at_sample : (most : ℕ) → MeetFrom most → (p : Parameters) (one other : Plane) (i j : ℕ) (events : List Event) (bits : List Bool) (more more' : List Span) (f g : CodeFault) → IsLegal p
    → IsLawful p events → interrupted_after_events events ≡ false → Agree p.maxval one other (i * one.width + j) → j < one.width → one.width ≤ suc most + j → is_run (around one i j) ≡ false
    → BreaksSpans one (row_from one i j ++ more) (state_of p events) bits f → BreaksSpans other (row_from other i j ++ more') (state_of p events) bits g
    → Meets p one other i more more' f g
at_sample most again p one other i j events bits more more' f g legal lawful uninterrupted agree inside enough regular first second =
    let s : Coding = state_of p events in
    let n : Neighbours = around one i j in
    let e : n ≡ around other i j = around_same p.maxval one other i j agree inside in
    let inside' : j < other.width = omega (arith, agree.widths) in
    let x : ℕ = at one i j in
    let y : ℕ = at other i j in
    elim (next_span one (sample_span i j) (row_from one i (j + 1)) more (row_from one i j) s bits f (row_from-sample one i j inside regular) first) [
      | inl here ↦ elim (next_span other (sample_span i j) (row_from other i (j + 1)) more' (row_from other i j) s bits g (row_from-sample other i j inside' (sym (ap is_run e) ∙ regular)) second) [
        | inl there ↦ inl (one_sample_fault s n bits f g here (subst (λ (m : Neighbours). BreaksSample s m bits g) (sym e) there))
        | inr later ↦ absurd (no_sample_word p events n y bits later.0 f legal lawful (agree.small' (i * other.width + j)) here
            (later.1 ∙ ap (λ (m : Neighbours). golomb_bits s.parameters (regular_word_in s m y) ++ later.0) (sym e)))
      ]
      | inr past ↦ elim (next_span other (sample_span i j) (row_from other i (j + 1)) more' (row_from other i j) s bits g (row_from-sample other i j inside' (sym (ap is_run e) ∙ regular)) second) [
        | inl there ↦ absurd (no_sample_word p events n x bits past.0 g legal lawful (agree.small (i * one.width + j)) (subst (λ (m : Neighbours). BreaksSample s m bits g) (sym e) there) past.1)
        | inr later ↦
            let same = only_sample p events legal lawful n x bits past.0 (agree.small (i * one.width + j)) past.1 y later.0 (agree.small' (i * other.width + j))
            (later.1 ∙ ap (λ (m : Neighbours). golomb_bits s.parameters (regular_word_in s m y) ++ later.0) (sym e)) in
            let t : Coding = state_of p (events ++ sample_event p one i j events ∷ []) in
            let after : t ≡ sample_after one i j s = sample_after-same p one i j events uninterrupted in
            again p one other i (j + 1) (events ++ sample_event p one i j events ∷ []) past.0 more more' f g legal
            (lawful_sample p one i j events (around_small p.maxval one i j agree.small) (agree.small (i * one.width + j)) regular uninterrupted lawful)
            (sample_uninterrupted p one i j events) (agree_more p.maxval one other i j agree (sym same.0)) (omega arith) (omega arith)
            (subst (λ (c : Coding). BreaksSpans one (row_from one i (j + 1) ++ more) c past.0 f) (sym after) past.2)
            (subst (λ (b : List Bool). BreaksSpans other (row_from other i (j + 1) ++ more') t b g) same.1
            (subst (λ (c : Coding). BreaksSpans other (row_from other i (j + 1) ++ more') c later.0 g) (sym (after ∙ sample_after-by s n (around other i j) x y e (sym same.0))) later.2))
      ]
    ]

-- ---- a run

-- Where a run is due: it breaks; or the sample breaks that interrupts a run of some samples; or the bits begin with a run to the line's
-- end, or with one and the sample that interrupts it, and a later span breaks.
data AtRun (plane : Plane) (i j : ℕ) (s : Coding) (bits : List Bool) (more : List Span) (fault : CodeFault) : Type 0 where
  breaks_run : BreaksRun s.run_index (plane.width - j) bits fault → AtRun plane i j s bits more fault
  breaks_sample : (count : ℕ) (mid : List Bool) → count ≤ run_length plane i j → j + count < plane.width → bits ≡ run_bits s.run_index (run_of count true) ++ mid
      → BreaksInterruption (run_after s (run_of count true)) (around plane i (j + count)) mid fault → AtRun plane i j s bits more fault
  past_end : (new : List Bool) → j + run_length plane i j ≡ plane.width → bits ≡ run_bits s.run_index (run_of (run_length plane i j) false) ++ new
      → BreaksSpans plane more (run_after s (run_of (run_length plane i j) false)) new fault → AtRun plane i j s bits more fault
  past_sample : (mid new : List Bool) → j + run_length plane i j < plane.width → bits ≡ run_bits s.run_index (run_of (run_length plane i j) true) ++ mid
      → mid ≡ interrupting_sample_bits_in plane i (j + run_length plane i j) (run_after s (run_of (run_length plane i j) true)) ++ new
      → BreaksSpans plane (row_from plane i (j + run_length plane i j + 1) ++ more) (interrupting_sample_after plane i (j + run_length plane i j) (run_after s (run_of (run_length plane i j) true))) new fault
      → AtRun plane i j s bits more fault

at_run_by : (plane : Plane) (i j : ℕ) (s : Coding) (bits : List Bool) (more : List Span) (fault : CodeFault) (short : Bool) → j < plane.width → is_run (around plane i j) ≡ true
    → ltb (j + run_length plane i j) plane.width ≡ short → BreaksSpans plane (row_from plane i j ++ more) s bits fault → AtRun plane i j s bits more fault
at_run_by plane i j s bits more fault true inside is e malformed =
    let count : ℕ = run_length plane i j in
    let bits' : List Bool = interrupting_sample_bits_in plane i (j + count) (run_after s (run_of count true)) in
    elim (next_span plane (run_span i j count true) (row_from plane i (j + count + 1)) more (row_from plane i j) s bits fault (row_from-run plane i j count true inside is refl e) malformed) [
      | inl (inl h) ↦ breaks_run h
      | inl (inr h) ↦ breaks_sample h.0 h.1 h.2 h.3 h.4 h.5
      | inr h ↦ past_sample (bits' ++ h.0) h.0 (ltb-true (j + count) plane.width e) (h.1 ∙ append_assoc (run_bits s.run_index (run_of count true)) bits' h.0) refl h.2
    ]
at_run_by plane i j s bits more fault false inside is e malformed =
    let count : ℕ = run_length plane i j in
    let far : plane.width ≤ j + count = ltb-false (j + count) plane.width e in
    let few : count ≤ plane.width - j = (longest plane i (left plane i j) (plane.width - j) j).few in
    elim (next_span plane (run_span i j count false) (row_from plane i (j + count + 1)) more (row_from plane i j) s bits fault (row_from-run plane i j count false inside is refl e) malformed) [
      | inl (inl h) ↦ breaks_run h
      | inl (inr h) ↦ breaks_sample h.0 h.1 h.2 h.3 h.4 h.5
      | inr h ↦ past_end h.0 (omega arith) h.1
          (subst (λ (xs : List Span). BreaksSpans plane (xs ++ more) (run_after s (run_of count false)) h.0 fault) (row_from-end plane i (j + count + 1) (omega arith)) h.2)
    ]

at_run : (plane : Plane) (i j : ℕ) (s : Coding) (bits : List Bool) (more : List Span) (fault : CodeFault) → j < plane.width → is_run (around plane i j) ≡ true
    → BreaksSpans plane (row_from plane i j ++ more) s bits fault → AtRun plane i j s bits more fault
at_run plane i j s bits more fault inside is malformed = at_run_by plane i j s bits more fault (ltb (j + run_length plane i j) plane.width) inside is refl malformed

-- the bits begin with a run of this number of samples
record RunInFront (left : ℕ) (index : ℕ) (bits : List Bool) (count : ℕ) (interrupted : Bool) (rest : List Bool) : Type 0 where
  ends : EndsInLine left count interrupted
  stands : bits ≡ run_bits index (run_of count interrupted) ++ rest

to_sample : (width j index count : ℕ) (bits rest : List Bool) → j + count < width → bits ≡ run_bits index (run_of count true) ++ rest → RunInFront (width - j) index bits count true rest
to_sample width j index count bits rest short e = record { ends = record { full = λ h. absurd (false≢true (sym h)); short = λ h. omega arith }; stands = e }

to_end : (width j index count : ℕ) (bits rest : List Bool) → j + count ≡ width → bits ≡ run_bits index (run_of count false) ++ rest → RunInFront (width - j) index bits count false rest
to_end width j index count bits rest full e = record { ends = record { full = λ h. omega arith; short = λ h. absurd (false≢true h) }; stands = e }

-- two such runs are one
front_once : (left index count other : ℕ) (interrupted ends : Bool) (bits rest others : List Bool) → RunInFront left index bits count interrupted rest → RunInFront left index bits other ends others
    → (other ≡ count) × (ends ≡ interrupted) × (others ≡ rest)
front_once left index count other interrupted ends bits rest others one two = run_once index left count interrupted bits rest one.ends one.stands other ends others two.ends two.stands

front_none : {X : Type 0} → (left index count : ℕ) (interrupted : Bool) (bits others rest : List Bool) (f : CodeFault) → 0 < left → BreaksRun index left others f → RunInFront left index bits count interrupted rest
    → others ≡ bits → X
front_none left index count interrupted bits others rest f some fault front e = absurd (no_run index left count interrupted others rest f fault some front.ends (e ∙ front.stands))

not_both : {X : Type 0} → true ≡ false → X
not_both e = absurd (false≢true (sym e))

-- the state after the sample that interrupts a run, by what is around it
interruption_after-by : (s : Coding) (n m : Neighbours) (x y : ℕ) → n ≡ m → x ≡ y
    → interruption_after s (ri_type_of n) (interruption_error s.parameters n x) ≡ interruption_after s (ri_type_of m) (interruption_error s.parameters m y)
interruption_after-by s n m x y e f =
    ap (λ (k : Neighbours). interruption_after s (ri_type_of k) (interruption_error s.parameters k x)) e
    ∙ ap (λ v. interruption_after s (ri_type_of m) (interruption_error s.parameters m v)) f

agree_turned : (maxval : ℕ) (one other : Plane) (i j : ℕ) → Agree maxval one other (i * one.width + j) → Agree maxval other one (i * other.width + j)
agree_turned maxval one other i j a = record {
  widths = sym a.widths;
  small = a.small';
  small' = a.small;
  same = λ k h. sym (a.same k (subst (λ w. k < i * w + j) (sym a.widths) h));
}

interrupting : (maxval : ℕ) (plane : Plane) (i j : ℕ) → AreSmall maxval plane → j + run_length plane i j < plane.width
    → Interrupts maxval (around plane i (j + run_length plane i j)).a (at plane i (j + run_length plane i j))
interrupting maxval plane i j small short =
    interrupted_run maxval plane i (plane.width - j) j (run_length plane i j) small (longest plane i (left plane i j) (plane.width - j) j) (omega arith)

-- the neighbours after a run in both
around_break : (maxval : ℕ) (one other : Plane) (i j count : ℕ) → Agree maxval one other (i * one.width + j) → j < one.width → count ≤ run_length one i j → count ≤ run_length other i j
    → j + count < one.width → around one i (j + count) ≡ around other i (j + count)
around_break maxval one other i j count a inside few few' short =
    around_same maxval one other i (j + count)
    (agree_run maxval one other i j count a (left_same maxval one other (i * one.width + j) i j a (omega arith) (omega arith)) few few') short

-- the sample that interrupts a run breaks in one plane, and doesn't in the other
sample_not_past : (p : Parameters) (one other : Plane) (i j : ℕ) (events : List Event) (bits mid mid' new : List Bool) (f : CodeFault) (count : ℕ) → IsLegal p → IsLawful p events
    → Agree p.maxval one other (i * one.width + j) → j < one.width → count ≤ run_length one i j → j + count < one.width
    → bits ≡ run_bits (state_of p events).run_index (run_of count true) ++ mid
    → BreaksInterruption (run_after (state_of p events) (run_of count true)) (around one i (j + count)) mid f
    → j + run_length other i j < other.width → bits ≡ run_bits (state_of p events).run_index (run_of (run_length other i j) true) ++ mid'
    → mid' ≡ interrupting_sample_bits_in other i (j + run_length other i j) (run_after (state_of p events) (run_of (run_length other i j) true)) ++ new → ⊥
sample_not_past p one other i j events bits mid mid' new f count legal lawful a inside few short e malformed short' e' m =
    let s : Coding = state_of p events in
    let c : ℕ = run_length other i j in
    let same = front_once (one.width - j) s.run_index count c true true bits mid mid' (to_sample one.width j s.run_index count bits mid short e)
    (to_sample one.width j s.run_index c bits mid' (omega (arith, a.widths)) e') in
    let equal : c ≡ count = same.0 in
    let next : around one i (j + count) ≡ around other i (j + count) = around_break p.maxval one other i j count a inside few (omega arith) short in
    let there = subst (λ (n : Neighbours). BreaksInterruption (run_after s (run_of count true)) n mid f) next malformed in
    let here = subst (λ k. BreaksInterruption (run_after s (run_of k true)) (around other i (j + k)) mid f) (sym equal) there in
    let at_last = subst (λ (b : List Bool). BreaksInterruption (run_after s (run_of c true)) (around other i (j + c)) b f) (sym same.2) here in
    no_interruption_word p events (run_of c true) (around other i (j + c)) (at other i (j + c)) mid' new f legal lawful
    (around_small p.maxval other i (j + c) a.small') (interrupting p.maxval other i j a.small' short') at_last m

both_samples : (p : Parameters) (one other : Plane) (i j : ℕ) (events : List Event) (bits mid mid' : List Bool) (f g : CodeFault) (count c : ℕ)
    → Agree p.maxval one other (i * one.width + j) → j < one.width → count ≤ run_length one i j → j + count < one.width
    → bits ≡ run_bits (state_of p events).run_index (run_of count true) ++ mid
    → BreaksInterruption (run_after (state_of p events) (run_of count true)) (around one i (j + count)) mid f
    → c ≤ run_length other i j → j + c < other.width → bits ≡ run_bits (state_of p events).run_index (run_of c true) ++ mid'
    → BreaksInterruption (run_after (state_of p events) (run_of c true)) (around other i (j + c)) mid' g → f ≡ g
both_samples p one other i j events bits mid mid' f g count c a inside few short e malformed few' short' e' malformed' =
    let s : Coding = state_of p events in
    let same = front_once (one.width - j) s.run_index count c true true bits mid mid' (to_sample one.width j s.run_index count bits mid short e)
    (to_sample one.width j s.run_index c bits mid' (omega (arith, a.widths)) e') in
    let equal : c ≡ count = same.0 in
    let next : around one i (j + count) ≡ around other i (j + count) = around_break p.maxval one other i j count a inside few (omega arith) short in
    let there = subst (λ k. BreaksInterruption (run_after s (run_of k true)) (around other i (j + k)) mid' g) equal malformed' in
    let here = subst (λ (n : Neighbours). BreaksInterruption (run_after s (run_of count true)) n mid' g) (sym next) there in
    let at_last = subst (λ (b : List Bool). BreaksInterruption (run_after s (run_of count true)) (around one i (j + count)) b g) same.2 here in
    one_interruption_fault (run_after s (run_of count true)) (around one i (j + count)) mid f g malformed at_last

both_ends : (p : Parameters) (one other : Plane) (i j : ℕ) (events : List Event) (bits new new' : List Bool) (more more' : List Span) (f g : CodeFault) → IsLegal p → IsLawful p events
    → interrupted_after_events events ≡ false → Agree p.maxval one other (i * one.width + j) → j < one.width
    → j + run_length one i j ≡ one.width → bits ≡ run_bits (state_of p events).run_index (run_of (run_length one i j) false) ++ new
    → BreaksSpans one more (run_after (state_of p events) (run_of (run_length one i j) false)) new f
    → j + run_length other i j ≡ other.width → bits ≡ run_bits (state_of p events).run_index (run_of (run_length other i j) false) ++ new'
    → BreaksSpans other more' (run_after (state_of p events) (run_of (run_length other i j) false)) new' g → BreakLater p one other i more more' f g
both_ends p one other i j events bits new new' more more' f g legal lawful uninterrupted a inside full e later full' e' later' =
    let s : Coding = state_of p events in
    let count : ℕ = run_length one i j in
    let c : ℕ = run_length other i j in
    let same = front_once (one.width - j) s.run_index count c false false bits new new' (to_end one.width j s.run_index count bits new full e)
    (to_end one.width j s.run_index c bits new' (full' ∙ sym a.widths) e') in
    let equal : c ≡ count = same.0 in
    let after : run_after s (run_of count false) ≡ state_of p (events ++ run (run_of count false) ∷ []) = state_of-run p events (run_of count false) in
    let there = subst (λ k. BreaksSpans other more' (run_after s (run_of k false)) new' g) equal later' in
    record {
      events = events ++ run (run_of count false) ∷ [];
      bits = new;
      lawful = lawful_run p events count (omega arith) uninterrupted lawful;
      uninterrupted = last_of events (run (run_of count false));
      agree = agree_less p.maxval one other (i * one.width + (j + count)) (i * one.width + one.width)
          (agree_run p.maxval one other i j count a (left_same p.maxval one other (i * one.width + j) i j a (omega arith) (omega arith)) (omega arith) (omega arith)) (omega arith);
      first = subst (λ (t : Coding). BreaksSpans one more t new f) after later;
      second = subst (λ (b : List Bool). BreaksSpans other more' (state_of p (events ++ run (run_of count false) ∷ [])) b g) same.2
          (subst (λ (t : Coding). BreaksSpans other more' t new' g) after there);
    }

both_past : (most : ℕ) → MeetFrom most → (p : Parameters) (one other : Plane) (i j : ℕ) (events : List Event) (bits mid mid' new new' : List Bool) (more more' : List Span) (f g : CodeFault)
    → IsLegal p → IsLawful p events → interrupted_after_events events ≡ false → Agree p.maxval one other (i * one.width + j) → j < one.width → one.width ≤ suc most + j
    → j + run_length one i j < one.width → bits ≡ run_bits (state_of p events).run_index (run_of (run_length one i j) true) ++ mid
    → mid ≡ interrupting_sample_bits_in one i (j + run_length one i j) (run_after (state_of p events) (run_of (run_length one i j) true)) ++ new
    → BreaksSpans one (row_from one i (j + run_length one i j + 1) ++ more) (interrupting_sample_after one i (j + run_length one i j) (run_after (state_of p events) (run_of (run_length one i j) true))) new f
    → j + run_length other i j < other.width → bits ≡ run_bits (state_of p events).run_index (run_of (run_length other i j) true) ++ mid'
    → mid' ≡ interrupting_sample_bits_in other i (j + run_length other i j) (run_after (state_of p events) (run_of (run_length other i j) true)) ++ new'
    → BreaksSpans other (row_from other i (j + run_length other i j + 1) ++ more') (interrupting_sample_after other i (j + run_length other i j) (run_after (state_of p events) (run_of (run_length other i j) true))) new' g
    → Meets p one other i more more' f g
both_past most again p one other i j events bits mid mid' new new' more more' f g legal lawful uninterrupted a inside enough short e m later short' e' m' later' =
    let s : Coding = state_of p events in
    let count : ℕ = run_length one i j in
    let c : ℕ = run_length other i j in
    let r : Run = run_of count true in
    let same = front_once (one.width - j) s.run_index count c true true bits mid mid' (to_sample one.width j s.run_index count bits mid short e)
    (to_sample one.width j s.run_index c bits mid' (omega (arith, a.widths)) e') in
    let equal : c ≡ count = same.0 in
    let n : Neighbours = around one i (j + count) in
    let next : n ≡ around other i (j + count) = around_break p.maxval one other i j count a inside (omega arith) (omega arith) short in
    let y : ℕ = at other i (j + count) in
    let samples : AreSamples p.maxval n = around_small p.maxval one i (j + count) a.small in
    let mine : Interrupts p.maxval n.a (at one i (j + count)) = interrupting p.maxval one i j a.small short in
    let theirs = subst (λ k. Interrupts p.maxval (around other i (j + k)).a (at other i (j + k))) equal (interrupting p.maxval other i j a.small' short') in
    let yours : Interrupts p.maxval n.a y = subst (λ (x : Neighbours). Interrupts p.maxval x.a y) (sym next) theirs in
    let word = sym same.2 ∙ subst (λ k. mid' ≡ interrupting_sample_bits_in other i (j + k) (run_after s (run_of k true)) ++ new') equal m' in
    let found = only_break p events legal lawful r n (at one i (j + count)) mid new samples mine m y new' yours
    (word ∙ ap (λ (x : Neighbours). golomb_bits (run_after s r).parameters (interruption_word_in (run_after s r) x y) ++ new') (sym next)) in
    let after : state_of p (events ++ run r ∷ interrupting_sample_event p one i (j + count) ∷ []) ≡ interrupting_sample_after one i (j + count) (run_after s r) =
    interrupting_sample_after-same p one i (j + count) events r in
    let t : Coding = state_of p (events ++ run r ∷ interrupting_sample_event p one i (j + count) ∷ []) in
    let there = subst (λ k. BreaksSpans other (row_from other i (j + k + 1) ++ more') (interrupting_sample_after other i (j + k) (run_after s (run_of k true))) new' g) equal later' in
    again p one other i (j + count + 1) (events ++ run r ∷ interrupting_sample_event p one i (j + count) ∷ []) new more more' f g legal
    (lawful_break p one i (j + count) count events samples mine uninterrupted lawful) (break_uninterrupted p one i (j + count) events r)
    (agree_more p.maxval one other i (j + count)
    (agree_run p.maxval one other i j count a (left_same p.maxval one other (i * one.width + j) i j a (omega arith) (omega arith)) (omega arith) (omega arith)) (sym found.0))
    (omega arith) (omega arith)
    (subst (λ (x : Coding). BreaksSpans one (row_from one i (j + count + 1) ++ more) x new f) (sym after) later)
    (subst (λ (b : List Bool). BreaksSpans other (row_from other i (j + count + 1) ++ more') t b g) found.1
    (subst (λ (x : Coding). BreaksSpans other (row_from other i (j + count + 1) ++ more') x new' g)
    (sym (after ∙ interruption_after-by (run_after s r) n (around other i (j + count)) (at one i (j + count)) y next (sym found.0))) there))

at_runs : (most : ℕ) → MeetFrom most → (p : Parameters) (one other : Plane) (i j : ℕ) (events : List Event) (bits : List Bool) (more more' : List Span) (f g : CodeFault) → IsLegal p
    → IsLawful p events → interrupted_after_events events ≡ false → Agree p.maxval one other (i * one.width + j) → j < one.width → one.width ≤ suc most + j
    → AtRun one i j (state_of p events) bits more f → AtRun other i j (state_of p events) bits more' g → Meets p one other i more more' f g
at_runs most again p one other i j events bits more more' f g legal lawful uninterrupted a inside enough (breaks_run h) (breaks_run h') =
    let s : Coding = state_of p events in
    inl (one_run_fault s.run_index (one.width - j) bits bits f g h (subst (λ w. BreaksRun s.run_index (w - j) bits g) (sym a.widths) h') refl)
at_runs most again p one other i j events bits more more' f g legal lawful uninterrupted a inside enough (breaks_run h) (breaks_sample c mid few short e malformed) =
    front_none (one.width - j) _ c true bits bits mid f (omega arith) h (to_sample one.width j _ c bits mid (omega (arith, a.widths)) e) refl
at_runs most again p one other i j events bits more more' f g legal lawful uninterrupted a inside enough (breaks_run h) (past_end new full e later) =
    front_none (one.width - j) _ (run_length other i j) false bits bits new f (omega arith) h (to_end one.width j _ (run_length other i j) bits new (full ∙ sym a.widths) e) refl
at_runs most again p one other i j events bits more more' f g legal lawful uninterrupted a inside enough (breaks_run h) (past_sample mid new short e m later) =
    front_none (one.width - j) _ (run_length other i j) true bits bits mid f (omega arith) h (to_sample one.width j _ (run_length other i j) bits mid (omega (arith, a.widths)) e) refl
at_runs most again p one other i j events bits more more' f g legal lawful uninterrupted a inside enough (breaks_sample count mid few short e malformed) (breaks_run h) =
    front_none (other.width - j) _ count true bits bits mid g (omega (arith, a.widths)) h (to_sample other.width j _ count bits mid (omega (arith, a.widths)) e) refl
at_runs most again p one other i j events bits more more' f g legal lawful uninterrupted a inside enough (breaks_sample count mid few short e malformed) (breaks_sample c mid' few' short' e' malformed') =
    inl (both_samples p one other i j events bits mid mid' f g count c a inside few short e malformed few' short' e' malformed')
at_runs most again p one other i j events bits more more' f g legal lawful uninterrupted a inside enough (breaks_sample count mid few short e malformed) (past_end new full e' later) =
    not_both (sym (front_once (one.width - j) _ count (run_length other i j) true false bits mid new (to_sample one.width j _ count bits mid short e)
    (to_end one.width j _ (run_length other i j) bits new (full ∙ sym a.widths) e')).1)
at_runs most again p one other i j events bits more more' f g legal lawful uninterrupted a inside enough (breaks_sample count mid few short e malformed) (past_sample mid' new short' e' m later) =
    absurd (sample_not_past p one other i j events bits mid mid' new f count legal lawful a inside few short e malformed short' e' m)
at_runs most again p one other i j events bits more more' f g legal lawful uninterrupted a inside enough (past_end new full e later) (breaks_run h) =
    front_none (other.width - j) _ (run_length one i j) false bits bits new g (omega (arith, a.widths)) h (to_end other.width j _ (run_length one i j) bits new (full ∙ a.widths) e) refl
at_runs most again p one other i j events bits more more' f g legal lawful uninterrupted a inside enough (past_end new full e later) (breaks_sample c mid few short e' malformed) =
    not_both (front_once (one.width - j) _ (run_length one i j) c false true bits new mid (to_end one.width j _ (run_length one i j) bits new full e)
    (to_sample one.width j _ c bits mid (omega (arith, a.widths)) e')).1
at_runs most again p one other i j events bits more more' f g legal lawful uninterrupted a inside enough (past_end new full e later) (past_end new' full' e' later') =
    inr (both_ends p one other i j events bits new new' more more' f g legal lawful uninterrupted a inside full e later full' e' later')
at_runs most again p one other i j events bits more more' f g legal lawful uninterrupted a inside enough (past_end new full e later) (past_sample mid new' short e' m later') =
    not_both (front_once (one.width - j) _ (run_length one i j) (run_length other i j) false true bits new mid (to_end one.width j _ (run_length one i j) bits new full e)
    (to_sample one.width j _ (run_length other i j) bits mid (omega (arith, a.widths)) e')).1
at_runs most again p one other i j events bits more more' f g legal lawful uninterrupted a inside enough (past_sample mid new short e m later) (breaks_run h) =
    front_none (other.width - j) _ (run_length one i j) true bits bits mid g (omega (arith, a.widths)) h (to_sample other.width j _ (run_length one i j) bits mid (omega (arith, a.widths)) e) refl
at_runs most again p one other i j events bits more more' f g legal lawful uninterrupted a inside enough (past_sample mid new short e m later) (breaks_sample c mid' few short' e' malformed) =
    absurd (sample_not_past p other one i j events bits mid' mid new g c legal lawful (agree_turned p.maxval one other i j a) (omega (arith, a.widths)) few (omega (arith, a.widths)) e' malformed short e m)
at_runs most again p one other i j events bits more more' f g legal lawful uninterrupted a inside enough (past_sample mid new short e m later) (past_end new' full e' later') =
    not_both (sym (front_once (one.width - j) _ (run_length one i j) (run_length other i j) true false bits mid new' (to_sample one.width j _ (run_length one i j) bits mid short e)
    (to_end one.width j _ (run_length other i j) bits new' (full ∙ sym a.widths) e')).1)
at_runs most again p one other i j events bits more more' f g legal lawful uninterrupted a inside enough (past_sample mid new short e m later) (past_sample mid' new' short' e' m' later') =
    both_past most again p one other i j events bits mid mid' new new' more more' f g legal lawful uninterrupted a inside enough short e m later short' e' m' later'

-- ---- a row

at_either : (most : ℕ) → MeetFrom most → (p : Parameters) (one other : Plane) (i j : ℕ) (events : List Event) (bits : List Bool) (more more' : List Span) (f g : CodeFault) (in_run : Bool)
    → IsLegal p → IsLawful p events → interrupted_after_events events ≡ false → Agree p.maxval one other (i * one.width + j) → j < one.width → one.width ≤ suc most + j
    → is_run (around one i j) ≡ in_run
    → BreaksSpans one (row_from one i j ++ more) (state_of p events) bits f → BreaksSpans other (row_from other i j ++ more') (state_of p events) bits g
    → Meets p one other i more more' f g
at_either most again p one other i j events bits more more' f g false legal lawful uninterrupted a inside enough is first second =
    at_sample most again p one other i j events bits more more' f g legal lawful uninterrupted a inside enough is first second
at_either most again p one other i j events bits more more' f g true legal lawful uninterrupted a inside enough is first second =
    let inside' : j < other.width = omega (arith, a.widths) in
    at_runs most again p one other i j events bits more more' f g legal lawful uninterrupted a inside enough
    (at_run one i j (state_of p events) bits more f inside is first)
    (at_run other i j (state_of p events) bits more' g inside' (sym (ap is_run (around_same p.maxval one other i j a inside)) ∙ is) second)

row_ends : (p : Parameters) (one other : Plane) (i j : ℕ) (events : List Event) (bits : List Bool) (more more' : List Span) (f g : CodeFault) → IsLawful p events
    → interrupted_after_events events ≡ false → Agree p.maxval one other (i * one.width + j) → j ≡ one.width
    → BreaksSpans one (row_from one i j ++ more) (state_of p events) bits f → BreaksSpans other (row_from other i j ++ more') (state_of p events) bits g
    → BreakLater p one other i more more' f g
row_ends p one other i j events bits more more' f g lawful uninterrupted a end first second = record {
  events = events;
  bits = bits;
  lawful = lawful;
  uninterrupted = uninterrupted;
  agree = agree_less p.maxval one other (i * one.width + j) (i * one.width + one.width) a (omega arith);
  first = subst (λ (xs : List Span). BreaksSpans one (xs ++ more) (state_of p events) bits f) (row_from-end one i j (omega arith)) first;
  second = subst (λ (xs : List Span). BreaksSpans other (xs ++ more') (state_of p events) bits g) (row_from-end other i j (omega (arith, a.widths))) second;
}

meet_from : (most : ℕ) → MeetFrom most
meet_from zero p one other i j events bits more more' f g legal lawful uninterrupted a inside enough first second =
    inr (row_ends p one other i j events bits more more' f g lawful uninterrupted a (omega arith) first second)
meet_from (suc most) p one other i j events bits more more' f g legal lawful uninterrupted a inside enough first second =
    elim (cases_lt j one.width) [
      | inl here ↦ at_either most (meet_from most) p one other i j events bits more more' f g (is_run (around one i j)) legal lawful uninterrupted a here enough refl first second
      | inr end ↦ inr (row_ends p one other i j events bits more more' f g lawful uninterrupted a (omega arith) first second)
    ]

-- ---- rows

nothing_breaks : (plane : Plane) (s : Coding) (bits : List Bool) (fault : CodeFault) → BreaksSpans plane [] s bits fault → ⊥
unfolding BreaksSpans
nothing_breaks plane s bits fault malformed = malformed

row_first : (plane : Plane) (i count : ℕ) (s : Coding) (bits : List Bool) (fault : CodeFault) → BreaksSpans plane (rows_from plane (suc count) i) s bits fault
    → BreaksSpans plane (row_from plane i 0 ++ rows_from plane count (suc i)) s bits fault
row_first plane i count s bits fault malformed = subst (λ (xs : List Span). BreaksSpans plane (xs ++ rows_from plane count (suc i)) s bits fault) (row_from-start plane i) malformed

one_break_in_rows : (count : ℕ) (p : Parameters) (one other : Plane) (i : ℕ) (events : List Event) (bits : List Bool) (f g : CodeFault) → IsLegal p → IsLawful p events
    → interrupted_after_events events ≡ false → Agree p.maxval one other (i * one.width)
    → BreaksSpans one (rows_from one count i) (state_of p events) bits f → BreaksSpans other (rows_from other count i) (state_of p events) bits g → f ≡ g
one_break_in_rows zero p one other i events bits f g legal lawful uninterrupted a first second = absurd (nothing_breaks one (state_of p events) bits f first)
one_break_in_rows (suc count) p one other i events bits f g legal lawful uninterrupted a first second =
    elim (meet_from one.width p one other i 0 events bits (rows_from one count (suc i)) (rows_from other count (suc i)) f g legal lawful uninterrupted
    (agree_less p.maxval one other (i * one.width) (i * one.width + 0) a (omega arith)) (omega arith) (omega arith)
    (row_first one i count (state_of p events) bits f first) (row_first other i count (state_of p events) bits g second)) [
      | inl same ↦ same
      | inr later ↦
          one_break_in_rows count p one other (suc i) later.events later.bits f g legal later.lawful later.uninterrupted
          (agree_less p.maxval one other (i * one.width + one.width) (suc i * one.width) later.agree (omega (arith, row_above i one.width))) later.first later.second
    ]

-- ---- a plane

pub one_break : (p : Parameters) (width height : ℕ) (bits : List Bool) (f g : CodeFault) → IsLegal p → 1 ≤ width → BreaksPlane p width height bits f → BreaksPlane p width height bits g → f ≡ g
one_break p width height bits f g legal some first second =
    let one : Plane = first.plane in
    let other : Plane = second.plane in
    one_break_in_rows (height - 0) p one other 0 [] bits f g legal none refl
    (record { widths = first.is_plane.width_is ∙ sym second.is_plane.width_is; small = first.is_plane.small; small' = second.is_plane.small; same = λ k h. absurd (omega arith) })
    (subst (λ (xs : List Span). BreaksSpans one xs (state_of p []) bits f) (all_spans p.maxval width height one some first.is_plane) first.breaks)
    (subst (λ (xs : List Span). BreaksSpans other xs (state_of p []) bits g) (all_spans p.maxval width height other some second.is_plane) second.breaks)
