-- A plane's bits are at most LIMIT for each of its samples.
use Rattle.std.proofs.Common.{◌≡◌, ◌≢◌, ℕ, zero, suc, ◌+◌, ◌-◌, ◌*◌, ◌/◌, ◌<◌, ◌≤◌, Bool, true, false, ltb, leb, cond, List, [], ◌∷◌, ◌++◌, length, length-append, get_or, eq-eqb, inl, inr, refl, sym, ◌∙◌, ap, subst, append_assoc, arith}
use Rattle.std.proofs.lemmas.Bool.{false≢true, ltb-true, ltb-false, leb-false, cond-true, cond-false, ne_eqb}
use Rattle.std.proofs.lemmas.Nat.{mul-le}
use Rattle.ls_frame.specs.Parameters.{Parameters, IsLegal, limit_of}
use Rattle.ls_coding.specs.Samples.{AreSamples, Interrupts}
use Rattle.ls_coding.specs.Contexts.{is_run}
use Rattle.ls_coding.specs.Runs.{run_of}
use Rattle.ls_coding.specs.Events.{Event, run, interrupted_after_events}
use Rattle.ls_coding.specs.Lawful.{by_sample, by_run, by_interruption, IsLawful, none, more}
use Rattle.ls_coding.proofs.CostLemmas.{sample_cost, full_run_cost, interrupted_run_cost}
use Rattle.ls_coding.proofs.FieldLemmas.{same_or_not}
use Rattle.ls_coding.proofs.StatsLemmas.{choose}
use Rattle.ls_stream.specs.Planes.{Plane, at, around, left, above, above_left, above_right, equal_from, run_length, IsLongest, Span, sample_span, run_span, cut, row_spans, rows_from, spans, sample_event, sample_bits, interrupting_sample_event, interrupting_sample_bits, span_events, span_bits, coded, plane_bits}
use Rattle.ls_stream.proofs.CodedLemmas.{last_of}

-- ---- the neighbours of a sample are samples

abbrev pub AreSmall : ℕ → Plane → Type 0
AreSmall maxval plane = (k : ℕ) → get_or plane.samples k 0 ≤ maxval

above_small : (maxval : ℕ) (plane : Plane) (i j : ℕ) → AreSmall maxval plane → above plane i j ≤ maxval
above_small maxval plane zero j small = omega arith
above_small maxval plane (suc i) j small = small (i * plane.width + j)

left_small : (maxval : ℕ) (plane : Plane) (i j : ℕ) → AreSmall maxval plane → left plane i j ≤ maxval
left_small maxval plane i zero small = above_small maxval plane i 0 small
left_small maxval plane i (suc j) small = small (i * plane.width + j)

above_left_small : (maxval : ℕ) (plane : Plane) (i j : ℕ) → AreSmall maxval plane → above_left plane i j ≤ maxval
above_left_small maxval plane zero j small = omega arith
above_left_small maxval plane (suc i) zero small = left_small maxval plane i zero small
above_left_small maxval plane (suc i) (suc j) small = small (i * plane.width + j)

above_right_small : (maxval : ℕ) (plane : Plane) (i j : ℕ) → AreSmall maxval plane → above_right plane i j ≤ maxval
above_right_small maxval plane i j small =
    choose (ltb (j + 1) plane.width) (above plane i (j + 1)) (above plane i j) (λ v. v ≤ maxval)
    (λ e. above_small maxval plane i (j + 1) small) (λ e. above_small maxval plane i j small)

pub around_small : (maxval : ℕ) (plane : Plane) (i j : ℕ) → AreSmall maxval plane → AreSamples maxval (around plane i j)
unfolding around
around_small maxval plane i j small = record {
  left = left_small maxval plane i j small;
  above = above_small maxval plane i j small;
  above_left = above_left_small maxval plane i j small;
  above_right = above_right_small maxval plane i j small;
}

-- ---- a run, and the sample that interrupts it

equal_more : (plane : Plane) (i value j count k : ℕ) → at plane i j ≡ value → ((l : ℕ) → l < count → at plane i (suc j + l) ≡ value) → k < suc count → at plane i (j + k) ≡ value
equal_more plane i value j count zero e equal h = let same : j + 0 ≡ j = omega arith in ap (at plane i) same ∙ e
equal_more plane i value j count (suc k) e equal h = let next : j + suc k ≡ suc j + k = omega arith in ap (at plane i) next ∙ equal k (omega arith)

longer : (plane : Plane) (i value most j count : ℕ) → at plane i j ≡ value → IsLongest plane i value most (suc j) count → IsLongest plane i value (suc most) j (suc count)
longer plane i value most j count e h =
    let next : suc j + count ≡ j + suc count = omega arith in
    record {
      few = omega (arith, h.few);
      equal = λ k l. equal_more plane i value j count k e h.equal l;
      other = λ l same. h.other (omega arith) (ap (at plane i) next ∙ same);
    }

shortest : (plane : Plane) (i value most j : ℕ) → at plane i j ≢ value → IsLongest plane i value most j 0
shortest plane i value most j h =
    let here : j ≡ j + 0 = omega arith in
    record {
      few = omega arith;
      equal = λ k l. absurd (omega arith);
      other = λ l same. h (ap (at plane i) here ∙ same);
    }

pub longest : (plane : Plane) (i value most j : ℕ) → IsLongest plane i value most j (equal_from plane i value most j)
longest plane i value zero j = record { few = omega arith; equal = λ k l. absurd (omega arith); other = λ l. absurd (omega arith) }
longest plane i value (suc most) j =
    elim (same_or_not (at plane i j) value) [
      | inl same ↦
          subst (IsLongest plane i value (suc most) j) (sym (cond-true _ _ _ (eq-eqb (at plane i j) value same)))
          (longer plane i value most j (equal_from plane i value most (suc j)) same (longest plane i value most (suc j)))
      | inr other ↦
          subst (IsLongest plane i value (suc most) j) (sym (cond-false _ _ _ (ne_eqb (at plane i j) value other))) (shortest plane i value (suc most) j other)
    ]

-- Ra after a run is the run's value
left_after : (plane : Plane) (i value j count : ℕ) → left plane i j ≡ value → ((k : ℕ) → k < count → at plane i (j + k) ≡ value) → left plane i (j + count) ≡ value
left_after plane i value j zero e equal = let same : j + 0 ≡ j = omega arith in ap (left plane i) same ∙ e
left_after plane i value j (suc count) e equal = let next : j + suc count ≡ suc (j + count) = omega arith in ap (left plane i) next ∙ equal count (omega arith)

pub interrupted_run : (maxval : ℕ) (plane : Plane) (i most j count : ℕ) → AreSmall maxval plane → IsLongest plane i (left plane i j) most j count → count < most
    → Interrupts maxval (around plane i (j + count)).a (at plane i (j + count))
unfolding around
interrupted_run maxval plane i most j count small h short = record {
  within = small (i * plane.width + (j + count));
  other = λ same. h.other short (same ∙ left_after plane i (left plane i j) j count refl h.equal);
}

-- ---- spans

-- after lawful events no more bits than these
abbrev Cost : Parameters → Plane → List Span → ℕ → Type 0
Cost p plane list most = (events : List Event) → IsLawful p events → interrupted_after_events events ≡ false → length (coded p plane list events) ≤ most

one_more : (p : Parameters) (plane : Plane) (span : Span) (later : List Span) (events : List Event) (own rest : ℕ) → length (span_bits p plane span events) ≤ own
    → length (coded p plane later (events ++ span_events p plane span events)) ≤ rest → length (coded p plane (span ∷ later) events) ≤ own + rest
unfolding coded
one_more p plane span later events own rest h k =
    omega (arith, length-append (span_bits p plane span events) (coded p plane later (events ++ span_events p plane span events)))

cost_of-sample : (p : Parameters) (plane : Plane) (i j : ℕ) (later : List Span) (rest : ℕ) → IsLegal p → AreSmall p.maxval plane → is_run (around plane i j) ≡ false
    → Cost p plane later rest → Cost p plane (sample_span i j ∷ later) (limit_of p.maxval + rest)
unfolding sample_event sample_bits
cost_of-sample p plane i j later rest legal small regular cost events lawful uninterrupted =
    let samples : AreSamples p.maxval (around plane i j) = around_small p.maxval plane i j small in
    let within : at plane i j ≤ p.maxval = small (i * plane.width + j) in
    one_more p plane (sample_span i j) later events (limit_of p.maxval) rest
    (sample_cost p events legal lawful (around plane i j) (at plane i j) samples within)
    (cost (events ++ sample_event p plane i j events ∷ [])
    (more events (sample_event p plane i j events) lawful (by_sample (around plane i j) (at plane i j) samples within regular uninterrupted refl))
    (last_of events (sample_event p plane i j events)))

cost_of-full_run : (p : Parameters) (plane : Plane) (i j count : ℕ) (later : List Span) (rest : ℕ) → IsLegal p → 0 < count
    → Cost p plane later rest → Cost p plane (run_span i j count false ∷ later) (limit_of p.maxval * count + rest)
cost_of-full_run p plane i j count later rest legal some cost events lawful uninterrupted =
    one_more p plane (run_span i j count false) later events (limit_of p.maxval * count) rest
    (full_run_cost p events legal lawful count some)
    (cost (events ++ run (run_of count false) ∷ [])
    (more events (run (run_of count false)) lawful (by_run count false (λ e. some) uninterrupted refl))
    (last_of events (run (run_of count false))))

cost_of-interrupted_run : (p : Parameters) (plane : Plane) (i j count : ℕ) (later : List Span) (rest : ℕ) → IsLegal p → AreSmall p.maxval plane
    → Interrupts p.maxval (around plane i (j + count)).a (at plane i (j + count))
    → Cost p plane later rest → Cost p plane (run_span i j count true ∷ later) (limit_of p.maxval * (count + 1) + rest)
unfolding interrupting_sample_event interrupting_sample_bits
cost_of-interrupted_run p plane i j count later rest legal small other cost events lawful uninterrupted =
    let samples : AreSamples p.maxval (around plane i (j + count)) = around_small p.maxval plane i (j + count) small in
    let begun : List Event = events ++ run (run_of count true) ∷ [] in
    let event : Event = interrupting_sample_event p plane i (j + count) in
    let first : IsLawful p begun = more events (run (run_of count true)) lawful (by_run count true (λ e. absurd (false≢true (sym e))) uninterrupted refl) in
    let both : IsLawful p (begun ++ event ∷ []) =
    more begun event first (by_interruption (around plane i (j + count)) (at plane i (j + count)) samples other (last_of events (run (run_of count true))) refl) in
    let joined : begun ++ event ∷ [] ≡ events ++ run (run_of count true) ∷ event ∷ [] = append_assoc events (run (run_of count true) ∷ []) (event ∷ []) in
    one_more p plane (run_span i j count true) later events (limit_of p.maxval * (count + 1)) rest
    (interrupted_run_cost p events legal lawful count (around plane i (j + count)) (at plane i (j + count)) samples other)
    (cost (events ++ run (run_of count true) ∷ event ∷ []) (subst (IsLawful p) joined both) (sym (ap interrupted_after_events joined) ∙ last_of begun event))

-- ---- rows

less : (p : Parameters) (plane : Plane) (list : List Span) (a b : ℕ) → a ≤ b → Cost p plane list a → Cost p plane list b
less p plane list a b h cost events lawful uninterrupted = omega (arith, cost events lawful uninterrupted)

-- some samples of a row, and those after them
spent : (limit a b c rest : ℕ) → a + b ≡ c → limit * a + (limit * b + rest) ≤ limit * c + rest
spent limit a b c rest e =
    let sum : limit * a + limit * b ≡ limit * (a + b) = omega arith in
    let whole : limit * (a + b) ≡ limit * c = ap (λ n. limit * n) e in
    omega arith

cost_of-run_span : (p : Parameters) (plane : Plane) (i j count : ℕ) (interrupted : Bool) (later : List Span) (rest : ℕ) → IsLegal p → AreSmall p.maxval plane → j < plane.width
    → IsLongest plane i (left plane i j) (plane.width - j) j count → ltb (j + count) plane.width ≡ interrupted
    → Cost p plane later (limit_of p.maxval * (plane.width - (j + count + 1)) + rest)
    → Cost p plane (run_span i j count interrupted ∷ later) (limit_of p.maxval * (plane.width - j) + rest)
cost_of-run_span p plane i j count true later rest legal small inside longest e cost =
    let short : j + count < plane.width = ltb-true (j + count) plane.width e in
    less p plane (run_span i j count true ∷ later) _ _ (spent (limit_of p.maxval) (count + 1) (plane.width - (j + count + 1)) (plane.width - j) rest (omega arith))
    (cost_of-interrupted_run p plane i j count later (limit_of p.maxval * (plane.width - (j + count + 1)) + rest) legal small
    (interrupted_run p.maxval plane i (plane.width - j) j count small longest (omega arith)) cost)
cost_of-run_span p plane i j count false later rest legal small inside longest e cost =
    let far : plane.width ≤ j + count = ltb-false (j + count) plane.width e in
    less p plane (run_span i j count false ∷ later) _ _ (spent (limit_of p.maxval) count (plane.width - (j + count + 1)) (plane.width - j) rest (omega (arith, longest.few)))
    (cost_of-full_run p plane i j count later (limit_of p.maxval * (plane.width - (j + count + 1)) + rest) legal (omega arith) cost)

cost_of-cut : (p : Parameters) (plane : Plane) (i most j : ℕ) (later : List Span) (rest : ℕ) → IsLegal p → AreSmall p.maxval plane
    → Cost p plane later rest → Cost p plane (cut plane i most j ++ later) (limit_of p.maxval * (plane.width - j) + rest)
cost_of-cut p plane i zero j later rest legal small cost = less p plane later rest _ (omega arith) cost
cost_of-cut p plane i (suc most) j later rest legal small cost =
    let limit : ℕ = limit_of p.maxval in
    let count : ℕ = run_length plane i j in
    let later_runs : List Span = run_span i j count (ltb (j + count) plane.width) ∷ cut plane i most (j + count + 1) in
    let one : List Span = sample_span i j ∷ cut plane i most (j + 1) in
    choose (leb plane.width j) [] (cond (is_run (around plane i j)) later_runs one) (λ list. Cost p plane (list ++ later) (limit * (plane.width - j) + rest))
    (λ e. less p plane later rest _ (omega arith) cost)
    (λ e.
    let inside : j < plane.width = leb-false plane.width j e in
    choose (is_run (around plane i j)) later_runs one (λ list. Cost p plane (list ++ later) (limit * (plane.width - j) + rest))
    (λ f. cost_of-run_span p plane i j count (ltb (j + count) plane.width) (cut plane i most (j + count + 1) ++ later) rest legal small inside
    (longest plane i (left plane i j) (plane.width - j) j) refl (cost_of-cut p plane i most (j + count + 1) later rest legal small cost))
    (λ f. less p plane (one ++ later) _ _ (let sum = spent limit 1 (plane.width - (j + 1)) (plane.width - j) rest (omega arith) in omega arith)
    (cost_of-sample p plane i j (cut plane i most (j + 1) ++ later) (limit * (plane.width - (j + 1)) + rest) legal small f (cost_of-cut p plane i most (j + 1) later rest legal small cost))))

cost_of-rows : (p : Parameters) (plane : Plane) (count i : ℕ) → IsLegal p → AreSmall p.maxval plane → Cost p plane (rows_from plane count i) (limit_of p.maxval * (plane.width * count))
unfolding coded row_spans
cost_of-rows p plane zero i legal small = λ events lawful uninterrupted. omega arith
cost_of-rows p plane (suc count) i legal small =
    let limit : ℕ = limit_of p.maxval in
    let rows : plane.width - 0 + plane.width * count ≡ plane.width * suc count = omega arith in
    let sum : limit * (plane.width - 0) + (limit * (plane.width * count) + 0) ≤ limit * (plane.width * suc count) + 0 = spent limit (plane.width - 0) (plane.width * count) (plane.width * suc count) 0 rows in
    less p plane (rows_from plane (suc count) i) _ _ (omega arith)
    (cost_of-cut p plane i plane.width 0 (rows_from plane count (suc i)) (limit * (plane.width * count)) legal small (cost_of-rows p plane count (suc i) legal small))

-- ---- a plane

pub plane_bits_short : (p : Parameters) (plane : Plane) → IsLegal p → 1 ≤ plane.width → ((k : ℕ) → get_or plane.samples k 0 ≤ p.maxval)
    → length (plane_bits p plane) ≤ limit_of p.maxval * length plane.samples
unfolding plane_bits spans
plane_bits_short p plane legal some small =
    let rows : ℕ = length plane.samples / plane.width in
    let fit : plane.width * rows ≤ length plane.samples = omega arith in
    let most : limit_of p.maxval * (plane.width * rows) ≤ limit_of p.maxval * length plane.samples = mul-le (limit_of p.maxval) (plane.width * rows) (limit_of p.maxval) (length plane.samples) (omega arith) fit in
    omega (arith, cost_of-rows p plane rows 0 legal small [] none refl)
