-- A plane's bits identify it: the same bits begin with those of no other plane of its width and height.
use Rattle.std.proofs.Common.{◌≡◌, ℕ, zero, suc, ◌+◌, ◌-◌, ◌*◌, ◌^◌, ◌<◌, ◌≤◌, min, Bool, true, false, ltb, List, [], ◌∷◌, ◌++◌, length, get_or, inl, inr, refl, sym, ◌∙◌, ap, subst, append_assoc, mod-eq_of_lt, arith}
use Rattle.std.proofs.lemmas.Bool.{false≢true, ltb-true, ltb-false, cases_lt}
use Rattle.ls_frame.specs.Parameters.{Parameters, IsLegal}
use Rattle.ls_bits.proofs.GolombLaws.{same_low}
use Rattle.ls_coding.specs.declared.neighbours.Neighbours.{Neighbours}
use Rattle.ls_coding.specs.Samples.{AreSamples, Interrupts}
use Rattle.ls_coding.specs.Contexts.{is_run}
use Rattle.ls_coding.specs.Interruptions.{Counts, ri_type_of, interruption_error}
use Rattle.ls_coding.specs.Runs.{Run, order, run_of, run_bits, index_at}
use Rattle.ls_coding.specs.Events.{Event, run, run_index_after_events, counts_after_events, interrupted_after_events, interruption_word, golomb_bits}
use Rattle.ls_coding.specs.Lawful.{by_sample, by_run, by_interruption, IsLawful, none, more}
use Rattle.ls_coding.specs.View.States.{Coding, state_of, regular_word_in, run_after, interruption_word_in}
use Rattle.ls_coding.proofs.EventLemmas.{word_of_regular}
use Rattle.ls_coding.proofs.OnceLemmas.{sample_once, interruption_once}
use Rattle.ls_coding.proofs.RunLaws.{no_bit_left}
use Rattle.ls_coding.proofs.RunLemmas.{some_samples}
use Rattle.ls_coding.proofs.StateLemmas.{state_of-run}
use Rattle.ls_stream.specs.Planes.{Plane, IsSamplePlane, at, around, left, run_length, Span, sample_span, run_span, row_from, sample_event, interrupting_sample_event, plane_bits}
use Rattle.ls_stream.specs.View.Coded.{sample_after, interrupting_sample_bits_in, interrupting_sample_after, bits_from}
use Rattle.ls_stream.specs.View.LineBuffers.{line_of, HoldsLine}
use Rattle.ls_stream.specs.View.Decoding.{HasSampleRow, place, MayBeRead, AreSamePlanes, HoldsRows, RowsMayBeRead, EndsInLine}
use Rattle.ls_stream.proofs.CodedLemmas.{last_of, sample_after-same, interrupting_sample_after-same, sample_uninterrupted, break_uninterrupted, either}
use Rattle.ls_stream.proofs.CostLemmas.{around_small, interrupted_run, longest}
use Rattle.ls_stream.proofs.DecodingLemmas.{first_span, IsLonger, IsOnlySample, sample_read, IsOnlyRun, run_equal, run_read_to_end, IsOnlyInterruption, run_read_to_break, same_on}
use Rattle.ls_stream.proofs.LineLemmas.{HasRow, line_sample, line_last, no_sample, over, to_left, near_is, none_above, filled}
use Rattle.ls_stream.proofs.RunReadingLemmas.{RunBegins, whole_one, part_one, break, begins, one_or_zero, same_later, ends_later}
use Rattle.ls_stream.proofs.ScanReadingLemmas.{IsStored, has_rows, sample_row, row_bits, row_read, all_rows_are, starts, ended}
use Rattle.ls_stream.proofs.SpanLemmas.{row_from-sample, row_from-run}

-- ---- a run

few_of : (left count : ℕ) (interrupted : Bool) → EndsInLine left count interrupted → count ≤ left
few_of left count true ends = let short = ends.short refl in omega arith
few_of left count false ends = let full = ends.full refl in omega arith

-- runs of fewer samples than these differ in their bits
abbrev RunsAreOnce : ℕ → Type 0
RunsAreOnce most =
    (index left count other : ℕ) (interrupted ends : Bool) (bits rest others : List Bool) → count < most → EndsInLine left count interrupted → EndsInLine left other ends
    → bits ≡ run_bits index (run_of count interrupted) ++ rest → bits ≡ run_bits index (run_of other ends) ++ others
    → (count ≡ other) × (interrupted ≡ ends) × (rest ≡ others)

begun_once : (most index left count other : ℕ) (interrupted ends : Bool) (bits rest others : List Bool) → RunsAreOnce most → count < suc most
    → EndsInLine left count interrupted → EndsInLine left other ends → RunBegins index left count interrupted bits rest → RunBegins index left other ends bits others
    → (count ≡ other) × (interrupted ≡ ends) × (rest ≡ others)
begun_once most index left count other interrupted ends bits rest others again few e f (whole_one enough g) (whole_one enough' g') =
    let some = some_samples index in
    let some_left : 2 ^ order index ≤ left = omega (arith, few_of left count interrupted e) in
    let same = again (min (index + 1) 31) (left - 2 ^ order index) (count - 2 ^ order index) (other - 2 ^ order index) interrupted ends
    (run_bits (min (index + 1) 31) (run_of (count - 2 ^ order index) interrupted) ++ rest) rest others (omega arith)
    (ends_later left (2 ^ order index) count interrupted enough some_left e) (ends_later left (2 ^ order index) other ends enough' some_left f) refl
    (same_later true true _ _ (sym g ∙ g')) in
    (omega (arith, same.0), same.1, same.2)
begun_once most index left count other interrupted ends bits rest others again few e f (whole_one enough g) (part_one is full less g') =
    absurd (omega (arith, few_of left count interrupted e))
begun_once most index left count other interrupted ends bits rest others again few e f (whole_one enough g) (break is short less g') =
    absurd (one_or_zero _ _ (sym g ∙ g'))
begun_once most index left count other interrupted ends bits rest others again few e f (part_one is full less g) (whole_one enough g') =
    absurd (omega (arith, few_of left other ends f))
begun_once most index left count other interrupted ends bits rest others again few e f (part_one is full less g) (part_one is' full' less' g') =
    (full ∙ sym full', is ∙ sym is', same_later true true _ _ (sym g ∙ g'))
begun_once most index left count other interrupted ends bits rest others again few e f (part_one is full less g) (break is' short less' g') =
    absurd (one_or_zero _ _ (sym g ∙ g'))
begun_once most index left count other interrupted ends bits rest others again few e f (break is short less g) (whole_one enough g') =
    absurd (one_or_zero _ _ (sym g' ∙ g))
begun_once most index left count other interrupted ends bits rest others again few e f (break is short less g) (part_one is' full less' g') =
    absurd (one_or_zero _ _ (sym g' ∙ g))
begun_once most index left count other interrupted ends bits rest others again few e f (break is short less g) (break is' short' less' g') =
    let low = same_low (order index) count other rest others (same_later false false _ _ (sym g ∙ g')) in
    (sym (mod-eq_of_lt less) ∙ low.0 ∙ mod-eq_of_lt less', is ∙ sym is', low.1)

-- at a line's end there is only the run of no samples, which has no bits
in_no_line : (index left count : ℕ) (interrupted : Bool) (bits rest : List Bool) → left ≡ 0 → EndsInLine left count interrupted → bits ≡ run_bits index (run_of count interrupted) ++ rest
    → (count ≡ 0) × (interrupted ≡ false) × (bits ≡ rest)
in_no_line index left count true bits rest at_end ends e = let short = ends.short refl in absurd (omega arith)
in_no_line index left count false bits rest at_end ends e =
    let nothing : count ≡ 0 = ends.full refl ∙ at_end in
    (nothing, refl, e ∙ ap (λ n. run_bits index (run_of n false) ++ rest) nothing ∙ ap (λ x. x ++ rest) (no_bit_left index))

one_run : (most : ℕ) → RunsAreOnce most
one_run zero index left count other interrupted ends bits rest others few e f g h = absurd (omega arith)
one_run (suc most) index left count other interrupted ends bits rest others few e f g h =
    elim (cases_lt 0 left) [
      | inl some ↦
          begun_once most index left count other interrupted ends bits rest others (one_run most) few e f
          (begins index left count interrupted bits rest some e g) (begins index left other ends bits others some f h)
      | inr nothing ↦
          let one = in_no_line index left count interrupted bits rest (omega arith) e g in
          let two = in_no_line index left other ends bits others (omega arith) f h in
          (one.0 ∙ sym two.0, one.1 ∙ sym two.1, sym one.2 ∙ two.2)
    ]

pub run_once : (index left count : ℕ) (interrupted : Bool) (bits new : List Bool) → EndsInLine left count interrupted → bits ≡ run_bits index (run_of count interrupted) ++ new
    → IsOnlyRun left index bits count interrupted new
run_once index left count interrupted bits new e g other ends rest f h =
    let same = one_run (suc count) index left count other interrupted ends bits new rest (omega arith) e f g h in
    (sym same.0, sym same.1, sym same.2)

-- ---- samples

pub only_sample : (p : Parameters) (events : List Event) → IsLegal p → IsLawful p events → (n : Neighbours) (x : ℕ) (bits new : List Bool) → x ≤ p.maxval
    → bits ≡ golomb_bits (state_of p events).parameters (regular_word_in (state_of p events) n x) ++ new → IsOnlySample p.maxval (state_of p events) n bits x new
unfolding state_of
only_sample p events legal lawful n x bits new small e other rest small' f =
    sample_once p events legal lawful n other x bits rest new small' small
    (f ∙ ap (λ w. golomb_bits p w ++ rest) (word_of_regular (state_of p events) n other events refl))
    (e ∙ ap (λ w. golomb_bits p w ++ new) (word_of_regular (state_of p events) n x events refl))

break_word : (p : Parameters) (events : List Event) (r : Run) (n : Neighbours) (x : ℕ)
    → golomb_bits (run_after (state_of p events) r).parameters (interruption_word_in (run_after (state_of p events) r) n x)
    ≡ golomb_bits p (interruption_word p (index_at (run_index_after_events events) r) (ri_type_of n) (counts_after_events p (ri_type_of n) events) (interruption_error p n x))
unfolding state_of interruption_word_in
break_word p events r n x =
    ap (λ (t : Counts). golomb_bits p (interruption_word p (index_at (run_index_after_events events) r) (ri_type_of n) t (interruption_error p n x))) (either p events (ri_type_of n))

pub only_break : (p : Parameters) (events : List Event) → IsLegal p → IsLawful p events → (r : Run) (n : Neighbours) (x : ℕ) (bits new : List Bool)
    → AreSamples p.maxval n → Interrupts p.maxval n.a x
    → bits ≡ golomb_bits (run_after (state_of p events) r).parameters (interruption_word_in (run_after (state_of p events) r) n x) ++ new
    → IsOnlyInterruption p.maxval (run_after (state_of p events) r) n bits x new
only_break p events legal lawful r n x bits new samples interrupts e other rest h f =
    interruption_once p events (index_at (run_index_after_events events) r) legal lawful n other x bits rest new samples h interrupts
    (f ∙ ap (λ b. b ++ rest) (break_word p events r n other)) (e ∙ ap (λ b. b ++ new) (break_word p events r n x))

-- ---- lawful events

pub lawful_sample : (p : Parameters) (plane : Plane) (i j : ℕ) (events : List Event) → AreSamples p.maxval (around plane i j) → at plane i j ≤ p.maxval
    → is_run (around plane i j) ≡ false → interrupted_after_events events ≡ false → IsLawful p events → IsLawful p (events ++ sample_event p plane i j events ∷ [])
unfolding sample_event
lawful_sample p plane i j events samples within regular uninterrupted lawful =
    more events (sample_event p plane i j events) lawful (by_sample (around plane i j) (at plane i j) samples within regular uninterrupted refl)

pub lawful_run : (p : Parameters) (events : List Event) (count : ℕ) → 0 < count → interrupted_after_events events ≡ false → IsLawful p events
    → IsLawful p (events ++ run (run_of count false) ∷ [])
lawful_run p events count some uninterrupted lawful = more events (run (run_of count false)) lawful (by_run count false (λ e. some) uninterrupted refl)

pub lawful_break : (p : Parameters) (plane : Plane) (i j count : ℕ) (events : List Event) → AreSamples p.maxval (around plane i j)
    → Interrupts p.maxval (around plane i j).a (at plane i j) → interrupted_after_events events ≡ false → IsLawful p events
    → IsLawful p (events ++ run (run_of count true) ∷ interrupting_sample_event p plane i j ∷ [])
unfolding interrupting_sample_event
lawful_break p plane i j count events samples other uninterrupted lawful =
    let r : Event = run (run_of count true) in
    let begun : List Event = events ++ r ∷ [] in
    let event : Event = interrupting_sample_event p plane i j in
    let first : IsLawful p begun = more events r lawful (by_run count true (λ e. absurd (false≢true (sym e))) uninterrupted refl) in
    subst (IsLawful p) (append_assoc events (r ∷ []) (event ∷ []))
    (more begun event first (by_interruption (around plane i j) (at plane i j) samples other (last_of events r) refl))

-- ---- a span

-- What may be read at a column of a row may be read at a later one, and nothing else: by the plane's own lines.
record IsStep (p : Parameters) (plane : Plane) (i width j : ℕ) (events : List Event) (bits : List Bool) : Type 0 where
  column : ℕ
  later : List Event
  new : List Bool
  further : j < column
  inside : column ≤ width
  lawful : IsLawful p later
  uninterrupted : interrupted_after_events later ≡ false
  same : AreSamePlanes p.maxval width (line_of plane i) (place j (line_of plane (suc i)) (state_of p events) bits) (place column (line_of plane (suc i)) (state_of p later) new)

no_longer : (line : List ℕ) (j : ℕ) → IsLonger line line j
no_longer line j = record { before = λ k h. refl }

sample_step : (p : Parameters) (plane : Plane) (i width j : ℕ) (events : List Event) (bits rest : List Bool) (others : List Span) → IsLegal p → HasSampleRow p.maxval width plane i
    → IsLawful p events → interrupted_after_events events ≡ false → j < width → is_run (around plane i j) ≡ false
    → bits ≡ bits_from plane (row_from plane i j ++ others) (state_of p events) ++ rest → IsStep p plane i width j events bits
sample_step p plane i width j events bits rest others legal row lawful uninterrupted inside regular e =
    let s : Coding = state_of p events in
    let n : Neighbours = around plane i j in
    let line : List ℕ = line_of plane (suc i) in
    let within : j < plane.width = omega (arith, row.width_is) in
    let small : at plane i j ≤ p.maxval = row.small (i * plane.width + j) in
    let new : List Bool = bits_from plane (row_from plane i (j + 1) ++ others) (sample_after plane i j s) ++ rest in
    let split : bits ≡ golomb_bits s.parameters (regular_word_in s n (at plane i j)) ++ new =
    e ∙ first_span plane (sample_span i j) (row_from plane i (j + 1)) others (row_from plane i j) s rest (row_from-sample plane i j within regular) in
    record {
      column = j + 1;
      later = events ++ sample_event p plane i j events ∷ [];
      new = new;
      further = omega arith;
      inside = omega arith;
      lawful = lawful_sample p plane i j events (around_small p.maxval plane i j row.small) small regular uninterrupted lawful;
      uninterrupted = sample_uninterrupted p plane i j events;
      same = sample_read p.maxval width j (at plane i j) (line_of plane i) line line s (state_of p (events ++ sample_event p plane i j events ∷ [])) bits new n inside
          (sym (near_is plane i j row.whole within)) regular split (sample_after-same p plane i j events uninterrupted)
          (only_sample p events legal lawful n (at plane i j) bits new small split) (no_longer line j) (line_sample plane i j row.whole within);
    }

run_in_line : (plane : Plane) (i j count : ℕ) → HasRow plane i → j < plane.width → j + count ≤ plane.width → count ≡ run_length plane i j
    → (c : ℕ) → j ≤ c → c < j + count → get_or (line_of plane (suc i)) (c + 1) 0 ≡ get_or (line_of plane (suc i)) j 0
run_in_line plane i j count row within few e c low high =
    line_sample plane i c row (omega arith) ∙ run_equal plane i j count e c low high ∙ sym (to_left plane i j row within)

full_step : (p : Parameters) (plane : Plane) (i width j : ℕ) (events : List Event) (bits rest : List Bool) (others : List Span) → IsLegal p → HasSampleRow p.maxval width plane i
    → IsLawful p events → interrupted_after_events events ≡ false → j < width → is_run (around plane i j) ≡ true → ltb (j + run_length plane i j) plane.width ≡ false
    → bits ≡ bits_from plane (row_from plane i j ++ others) (state_of p events) ++ rest → IsStep p plane i width j events bits
full_step p plane i width j events bits rest others legal row lawful uninterrupted inside is full e =
    let s : Coding = state_of p events in
    let count : ℕ = run_length plane i j in
    let line : List ℕ = line_of plane (suc i) in
    let within : j < plane.width = omega (arith, row.width_is) in
    let far : plane.width ≤ j + count = ltb-false (j + count) plane.width full in
    let few : count ≤ plane.width - j = (longest plane i (left plane i j) (plane.width - j) j).few in
    let end : j + count ≡ width = omega (arith, row.width_is) in
    let new : List Bool = bits_from plane (row_from plane i (j + count + 1) ++ others) (run_after s (run_of count false)) ++ rest in
    let split : bits ≡ run_bits s.run_index (run_of count false) ++ new =
    e ∙ first_span plane (run_span i j count false) (row_from plane i (j + count + 1)) others (row_from plane i j) s rest (row_from-run plane i j count false within is refl full) in
    let all : count ≡ width - j = omega arith in
    record {
      column = j + count;
      later = events ++ run (run_of count false) ∷ [];
      new = new;
      further = omega arith;
      inside = omega arith;
      lawful = lawful_run p events count (omega arith) uninterrupted lawful;
      uninterrupted = last_of events (run (run_of count false));
      same = run_read_to_end p.maxval width j count (line_of plane i) line line s (state_of p (events ++ run (run_of count false) ∷ [])) bits new inside end
          (ap is_run (near_is plane i j row.whole within) ∙ is) split (sym (state_of-run p events (run_of count false)))
          (run_once s.run_index (width - j) count false bits new (record { full = λ h. all; short = λ h. absurd (false≢true h) }) split) (no_longer line j)
          (run_in_line plane i j count row.whole within (omega (arith, row.width_is)) refl);
    }

interrupted_step : (p : Parameters) (plane : Plane) (i width j : ℕ) (events : List Event) (bits rest : List Bool) (others : List Span) → IsLegal p → HasSampleRow p.maxval width plane i
    → IsLawful p events → interrupted_after_events events ≡ false → j < width → is_run (around plane i j) ≡ true → ltb (j + run_length plane i j) plane.width ≡ true
    → bits ≡ bits_from plane (row_from plane i j ++ others) (state_of p events) ++ rest → IsStep p plane i width j events bits
interrupted_step p plane i width j events bits rest others legal row lawful uninterrupted inside is short e =
    let s : Coding = state_of p events in
    let count : ℕ = run_length plane i j in
    let r : Run = run_of count true in
    let n : Neighbours = around plane i (j + count) in
    let line : List ℕ = line_of plane (suc i) in
    let within : j < plane.width = omega (arith, row.width_is) in
    let near_end : j + count < plane.width = ltb-true (j + count) plane.width short in
    let break_inside : j + count < width = omega (arith, row.width_is) in
    let samples : AreSamples p.maxval n = around_small p.maxval plane i (j + count) row.small in
    let other : Interrupts p.maxval n.a (at plane i (j + count)) =
    interrupted_run p.maxval plane i (plane.width - j) j count row.small (longest plane i (left plane i j) (plane.width - j) j) (omega arith) in
    let new : List Bool = bits_from plane (row_from plane i (j + count + 1) ++ others) (interrupting_sample_after plane i (j + count) (run_after s r)) ++ rest in
    let mid : List Bool = interrupting_sample_bits_in plane i (j + count) (run_after s r) ++ new in
    let split : bits ≡ run_bits s.run_index r ++ mid =
    e ∙ first_span plane (run_span i j count true) (row_from plane i (j + count + 1)) others (row_from plane i j) s rest (row_from-run plane i j count true within is refl short)
    ∙ append_assoc (run_bits s.run_index r) (interrupting_sample_bits_in plane i (j + count) (run_after s r)) new in
    let less : count < width - j = omega arith in
    record {
      column = j + count + 1;
      later = events ++ run r ∷ interrupting_sample_event p plane i (j + count) ∷ [];
      new = new;
      further = omega arith;
      inside = omega arith;
      lawful = lawful_break p plane i (j + count) count events samples other uninterrupted lawful;
      uninterrupted = break_uninterrupted p plane i (j + count) events r;
      same = run_read_to_break p.maxval width j count (at plane i (j + count)) (line_of plane i) line line line s (state_of p (events ++ run r ∷ interrupting_sample_event p plane i (j + count) ∷ []))
          bits mid new n inside break_inside (ap is_run (near_is plane i j row.whole within) ∙ is) (sym (near_is plane i (j + count) row.whole near_end)) split refl
          (interrupting_sample_after-same p plane i (j + count) events r)
          (run_once s.run_index (width - j) count true bits mid (record { full = λ h. absurd (false≢true (sym h)); short = λ h. less }) split)
          (only_break p events legal lawful r n (at plane i (j + count)) mid new samples other refl) other.other
          (no_longer line j) (run_in_line plane i j count row.whole within (omega arith) refl) (no_longer line (j + count))
          (line_sample plane i (j + count) row.whole near_end);
    }

step_by : (p : Parameters) (plane : Plane) (i width j : ℕ) (events : List Event) (bits rest : List Bool) (others : List Span) (in_run short : Bool) → IsLegal p → HasSampleRow p.maxval width plane i
    → IsLawful p events → interrupted_after_events events ≡ false → j < width → is_run (around plane i j) ≡ in_run → ltb (j + run_length plane i j) plane.width ≡ short
    → bits ≡ bits_from plane (row_from plane i j ++ others) (state_of p events) ++ rest → IsStep p plane i width j events bits
step_by p plane i width j events bits rest others false short legal row lawful uninterrupted inside is less e = sample_step p plane i width j events bits rest others legal row lawful uninterrupted inside is e
step_by p plane i width j events bits rest others true false legal row lawful uninterrupted inside is less e = full_step p plane i width j events bits rest others legal row lawful uninterrupted inside is less e
step_by p plane i width j events bits rest others true true legal row lawful uninterrupted inside is less e = interrupted_step p plane i width j events bits rest others legal row lawful uninterrupted inside is less e

-- ---- a row

record IsRowRead (p : Parameters) (plane : Plane) (i width j : ℕ) (events : List Event) (bits : List Bool) : Type 0 where
  later : List Event
  new : List Bool
  lawful : IsLawful p later
  uninterrupted : interrupted_after_events later ≡ false
  same : AreSamePlanes p.maxval width (line_of plane i) (place j (line_of plane (suc i)) (state_of p events) bits) (place width (line_of plane (suc i)) (state_of p later) new)

at_row_end : (p : Parameters) (plane : Plane) (i width j : ℕ) (events : List Event) (bits : List Bool) → IsLawful p events → interrupted_after_events events ≡ false → j ≡ width
    → IsRowRead p plane i width j events bits
at_row_end p plane i width j events bits lawful uninterrupted e = record {
  later = events;
  new = bits;
  lawful = lawful;
  uninterrupted = uninterrupted;
  same = subst (λ c. AreSamePlanes p.maxval width (line_of plane i) (place j (line_of plane (suc i)) (state_of p events) bits) (place c (line_of plane (suc i)) (state_of p events) bits)) e
      (λ other k row others rest. (λ m. m, λ m. m));
}

-- the plane itself may be read
itself : (p : Parameters) (plane : Plane) (i width j : ℕ) (events : List Event) (bits rest : List Bool) (others : List Span) → HasSampleRow p.maxval width plane i → j ≤ width
    → bits ≡ bits_from plane (row_from plane i j ++ others) (state_of p events) ++ rest
    → MayBeRead plane i (line_of plane i) (place j (line_of plane (suc i)) (state_of p events) bits) others rest
itself p plane i width j events bits rest others row inside e = record {
  over = λ k h. refl;
  first = refl;
  before = λ c h. line_sample plane i c row.whole (omega (arith, row.width_is));
  bits_are = e;
}

row_walked : (p : Parameters) (plane : Plane) (i width most j : ℕ) (events : List Event) (bits rest : List Bool) (others : List Span) → IsLegal p → HasSampleRow p.maxval width plane i
    → IsLawful p events → interrupted_after_events events ≡ false → j ≤ width → width ≤ most + j
    → bits ≡ bits_from plane (row_from plane i j ++ others) (state_of p events) ++ rest → IsRowRead p plane i width j events bits
row_walked p plane i width zero j events bits rest others legal row lawful uninterrupted inside enough e = at_row_end p plane i width j events bits lawful uninterrupted (omega arith)
row_walked p plane i width (suc most) j events bits rest others legal row lawful uninterrupted inside enough e =
    elim (cases_lt j width) [
      | inl here ↦
          let one = step_by p plane i width j events bits rest others (is_run (around plane i j)) (ltb (j + run_length plane i j) plane.width) legal row lawful uninterrupted here refl refl e in
          let m = (one.same plane i row others rest).0 (itself p plane i width j events bits rest others row inside e) in
          let further = one.further in
          let all = row_walked p plane i width most one.column one.later one.new rest others legal row one.lawful one.uninterrupted one.inside (omega arith) m.bits_are in
          record {
            later = all.later;
            new = all.new;
            lawful = all.lawful;
            uninterrupted = all.uninterrupted;
            same = same_on p.maxval width (line_of plane i) (place j (line_of plane (suc i)) (state_of p events) bits) (place one.column (line_of plane (suc i)) (state_of p one.later) one.new)
                (place width (line_of plane (suc i)) (state_of p all.later) all.new) one.same all.same;
          }
      | inr end ↦ at_row_end p plane i width j events bits lawful uninterrupted (omega arith)
    ]

-- ---- rows

place_of : (i j width : ℕ) → (i * width + j) * 1 + 0 ≡ i * width + j
place_of i j width = omega arith

own_sample : (plane : Plane) (width i j : ℕ) → plane.width ≡ width → get_or plane.samples ((i * width + j) * 1 + 0) 0 ≡ at plane i j
own_sample plane width i j e = ap (λ n. get_or plane.samples n 0) (place_of i j width ∙ ap (λ w. i * w + j) (sym e))

stored : (plane : Plane) (width i : ℕ) → HasRow plane i → plane.width ≡ width → IsStored width 1 0 i plane.samples plane.samples (line_of plane (suc i))
stored plane width i row e = record {
  stored = λ j h. own_sample plane width i j e ∙ sym (line_sample plane i j row (omega arith));
  kept = λ r j h k. refl;
}

-- the line above a row, for a plane that has the same rows above it
held_line : (maxval width height i : ℕ) (plane other : Plane) → 1 ≤ width → i ≤ height → IsSamplePlane maxval width height plane → IsSamplePlane maxval width height other
    → HoldsRows other i 1 0 plane.samples → HoldsLine other i (line_of plane i)
held_line maxval width height zero plane other some inside is is' rows = none_above other (line_of plane 0) (λ k h. no_sample plane k (omega (arith, is.width_is, is'.width_is)))
held_line maxval width height (suc i) plane other some inside is is' rows =
    let row : HasRow plane i = has_rows maxval width height i plane is (omega arith) in
    let widths : plane.width ≡ other.width = is.width_is ∙ sym is'.width_is in
    let before : plane.width ≡ plane.width - 1 + 1 = omega (arith, is.width_is) in
    filled other i (line_of plane i) (line_of plane (suc i)) (omega (arith, is'.width_is)) (has_rows maxval width height i other is' (omega arith))
    (held_line maxval width height i plane other some (omega arith) is is' (λ r j h k. rows r j (omega arith) k))
    (sym (over plane i 0 row (omega (arith, is.width_is))))
    (λ k h. line_sample plane i k row (omega arith) ∙ sym (own_sample plane other.width i k widths) ∙ rows i k (omega arith) h)
    (ap (λ w. get_or (line_of plane (suc i)) (w + 1) 0) (sym widths) ∙ line_last plane i row
    ∙ sym (ap (λ n. get_or (line_of plane (suc i)) n 0) before ∙ line_sample plane i (plane.width - 1) row (omega (arith, is.width_is)))
    ∙ ap (λ w. get_or (line_of plane (suc i)) w 0) widths)

-- whatever may be read from a row on may be read to the end
record IsRest (p : Parameters) (plane : Plane) (width height i : ℕ) (events : List Event) (bits : List Bool) : Type 0 where
  later : List Event
  new : List Bool
  all : (other : Plane) (rest : List Bool) → IsSamplePlane p.maxval width height other
      → RowsMayBeRead other height i 1 0 plane.samples (state_of p events) bits rest → RowsMayBeRead other height height 1 0 plane.samples (state_of p later) new rest

rows_walked : (p : Parameters) (plane : Plane) (width height more_rows i : ℕ) (events : List Event) (bits rest : List Bool) → IsLegal p → 1 ≤ width → IsSamplePlane p.maxval width height plane
    → i + more_rows ≡ height → IsLawful p events → interrupted_after_events events ≡ false
    → RowsMayBeRead plane height i 1 0 plane.samples (state_of p events) bits rest → IsRest p plane width height i events bits
rows_walked p plane width height zero i events bits rest legal some is e lawful uninterrupted m =
    let end : i ≡ height = omega arith in
    record {
      later = events;
      new = bits;
      all = λ other r is' may. subst (λ n. RowsMayBeRead other height n 1 0 plane.samples (state_of p events) bits r) end may;
    }
rows_walked p plane width height (suc more_rows) i events bits rest legal some is e lawful uninterrupted m =
    let inside : i < height = omega arith in
    let row = sample_row p.maxval width height i plane is inside in
    let one = row_walked p plane i width width 0 events bits rest _ legal row lawful uninterrupted (omega arith) (omega arith) (m.bits_are ∙ row_bits plane height i (state_of p events) rest inside) in
    let next : (other : Plane) (r : List Bool) → IsSamplePlane p.maxval width height other → RowsMayBeRead other height i 1 0 plane.samples (state_of p events) bits r
    → RowsMayBeRead other height (i + 1) 1 0 plane.samples (state_of p one.later) one.new r =
    λ other r is' may.
    (row_read p.maxval width height 1 0 i (line_of plane i) (line_of plane (suc i)) (line_of plane (suc i)) plane.samples plane.samples (state_of p events) (state_of p one.later) bits one.new other r
    inside some is' (held_line p.maxval width height i plane other some (omega arith) is is') one.same
    (sym (over plane i 0 row.whole (omega (arith, is.width_is)))) refl (stored plane width i row.whole is.width_is)).0 may in
    let later = rows_walked p plane width height more_rows (i + 1) one.later one.new rest legal some is (omega arith) one.lawful one.uninterrupted (next plane rest is m) in
    record {
      later = later.later;
      new = later.new;
      all = λ other r is' may. later.all other r is' (next other r is' may);
    }

-- ---- a plane

pub planes_are_told_apart : (p : Parameters) (plane other : Plane) (width height : ℕ) (bits rest others : List Bool) → IsLegal p → 1 ≤ width
    → IsSamplePlane p.maxval width height plane → IsSamplePlane p.maxval width height other
    → bits ≡ plane_bits p plane ++ rest → bits ≡ plane_bits p other ++ others → (plane ≡ other) × (rest ≡ others)
unfolding state_of
planes_are_told_apart p plane other width height bits rest others legal some is is' e f =
    let s : Coding = state_of p [] in
    let first = starts p.maxval width height 1 0 plane plane.samples s bits rest some is refl e in
    let second = starts p.maxval width height 1 0 other plane.samples s bits others some is' refl f in
    let walked = rows_walked p plane width height height 0 [] bits rest legal some is (omega arith) none refl first in
    let one = walked.all plane rest is first in
    let two = walked.all other others is' second in
    let count : length plane.samples ≡ height * width * 1 = omega (arith, is.count) in (
      all_rows_are p.maxval width height 1 0 plane.samples plane some (omega arith) count is one.rows
          ∙ sym (all_rows_are p.maxval width height 1 0 plane.samples other some (omega arith) count is' two.rows),
      ended plane height 1 0 plane.samples (state_of p walked.later) walked.new rest one ∙ sym (ended other height 1 0 plane.samples (state_of p walked.later) walked.new others two),
    )
