-- The bits of spans after events are those from the events' state on.
use Rattle.std.proofs.Common.{◌≡◌, ℕ, ◌+◌, Bool, true, false, cond, List, [], ◌∷◌, ◌++◌, refl, sym, ◌∙◌, ap, append_assoc}
use Rattle.ls_frame.specs.Parameters.{Parameters}
use Rattle.ls_coding.specs.Interruptions.{Counts, ri_type_of, interruption_error}
use Rattle.ls_coding.specs.Runs.{Run, run_of, run_bits, index_at}
use Rattle.ls_coding.specs.Events.{Event, run, interruption, run_index_after_events, counts_after_events, interrupted_after_events, is_interrupted, interruption_word, golomb_bits}
use Rattle.ls_coding.specs.View.States.{Coding, state_of, run_after, interruption_word_in, interruption_after}
use Rattle.ls_coding.proofs.EventLemmas.{word_of_regular, state_after_regular, state_of-interruption}
use Rattle.ls_coding.proofs.StateLemmas.{state_of-run, fold-push}
use Rattle.ls_stream.specs.Planes.{Plane, at, around, Span, sample_span, run_span, sample_event, sample_bits, interrupting_sample_event, interrupting_sample_bits, coded, plane_bits, spans}
use Rattle.ls_stream.specs.View.Coded.{sample_bits_in, sample_after, interrupting_sample_bits_in, interrupting_sample_after, bits_from}

pub parameters_of : (p : Parameters) (events : List Event) → (state_of p events).parameters ≡ p
unfolding state_of
parameters_of p events = refl

pub uninterrupted_of : (p : Parameters) (events : List Event) → interrupted_after_events events ≡ false → (state_of p events).interrupted ≡ false
unfolding state_of
uninterrupted_of p events h = h

index_of : (p : Parameters) (events : List Event) → (state_of p events).run_index ≡ run_index_after_events events
unfolding state_of
index_of p events = refl

-- ---- a sample of regular mode

sample_bits-same : (p : Parameters) (plane : Plane) (i j : ℕ) (events : List Event) → sample_bits p plane i j events ≡ sample_bits_in plane i j (state_of p events)
unfolding sample_bits state_of
sample_bits-same p plane i j events = ap (golomb_bits p) (sym (word_of_regular (state_of p events) (around plane i j) (at plane i j) events refl))

pub sample_after-same : (p : Parameters) (plane : Plane) (i j : ℕ) (events : List Event) → interrupted_after_events events ≡ false
    → state_of p (events ++ sample_event p plane i j events ∷ []) ≡ sample_after plane i j (state_of p events)
unfolding sample_event state_of
sample_after-same p plane i j events uninterrupted = sym (state_after_regular (state_of p events) _ (around plane i j) (at plane i j) uninterrupted refl events refl)

-- ---- the sample that interrupts a run

pub either : (p : Parameters) (events : List Event) (ri_type : Bool) → cond ri_type (counts_after_events p true events) (counts_after_events p false events) ≡ counts_after_events p ri_type events
either p events true = refl
either p events false = refl

break_bits-same : (p : Parameters) (plane : Plane) (i j : ℕ) (events : List Event) (r : Run)
    → interrupting_sample_bits p plane i j (index_at (run_index_after_events events) r) events ≡ interrupting_sample_bits_in plane i j (run_after (state_of p events) r)
unfolding interrupting_sample_bits state_of interruption_word_in
break_bits-same p plane i j events r =
    ap (λ (t : Counts). golomb_bits p (interruption_word p (index_at (run_index_after_events events) r) (ri_type_of (around plane i j)) t (interruption_error p (around plane i j) (at plane i j))))
    (sym (either p events (ri_type_of (around plane i j))))

pub interrupting_sample_after-same : (p : Parameters) (plane : Plane) (i j : ℕ) (events : List Event) (r : Run)
    → state_of p (events ++ run r ∷ interrupting_sample_event p plane i j ∷ []) ≡ interrupting_sample_after plane i j (run_after (state_of p events) r)
unfolding interrupting_sample_event
interrupting_sample_after-same p plane i j events r =
    let ri_type : Bool = ri_type_of (around plane i j) in
    let known : (run_after (state_of p events) r).parameters ≡ p = parameters_of p events in
    ap (state_of p) (sym (append_assoc events (run r ∷ []) (interruption ri_type (interruption_error p (around plane i j) (at plane i j)) ∷ [])))
    ∙ sym (state_of-interruption p (events ++ run r ∷ []) ri_type (interruption_error p (around plane i j) (at plane i j)))
    ∙ ap (λ (s : Coding). interruption_after s ri_type (interruption_error p (around plane i j) (at plane i j))) (sym (state_of-run p events r))
    ∙ ap (λ (q : Parameters). interruption_after (run_after (state_of p events) r) ri_type (interruption_error q (around plane i j) (at plane i j))) (sym known)

-- ---- all spans

pub last_of : (events : List Event) (event : Event) → interrupted_after_events (events ++ event ∷ []) ≡ is_interrupted event
last_of events event = fold-push (λ (interrupted : Bool) (event : Event). is_interrupted event) false events event

last_of_two : (events : List Event) (event last : Event) → interrupted_after_events (events ++ event ∷ last ∷ []) ≡ is_interrupted last
last_of_two events event last = ap interrupted_after_events (sym (append_assoc events (event ∷ []) (last ∷ []))) ∙ last_of (events ++ event ∷ []) last

step : (p : Parameters) (plane : Plane) (more : List Span) (bits bits' : List Bool) (events : List Event) (after : Coding) → bits ≡ bits' → state_of p events ≡ after
    → coded p plane more events ≡ bits_from plane more (state_of p events) → bits ++ coded p plane more events ≡ bits' ++ bits_from plane more after
step p plane more bits bits' events after e f g = ap (λ x. x ++ coded p plane more events) e ∙ ap (λ x. bits' ++ x) (g ∙ ap (bits_from plane more) f)

pub sample_uninterrupted : (p : Parameters) (plane : Plane) (i j : ℕ) (events : List Event) → interrupted_after_events (events ++ sample_event p plane i j events ∷ []) ≡ false
unfolding sample_event
sample_uninterrupted p plane i j events = last_of events (sample_event p plane i j events)

pub break_uninterrupted : (p : Parameters) (plane : Plane) (i j : ℕ) (events : List Event) (r : Run) → interrupted_after_events (events ++ run r ∷ interrupting_sample_event p plane i j ∷ []) ≡ false
unfolding interrupting_sample_event
break_uninterrupted p plane i j events r = last_of_two events (run r) (interrupting_sample_event p plane i j)

run_bits-same : (p : Parameters) (events : List Event) (r : Run) → run_bits (run_index_after_events events) r ≡ run_bits (state_of p events).run_index r
run_bits-same p events r = ap (λ index. run_bits index r) (sym (index_of p events))

pub all_same : (p : Parameters) (plane : Plane) (more : List Span) (events : List Event) → interrupted_after_events events ≡ false
    → coded p plane more events ≡ bits_from plane more (state_of p events)
unfolding coded bits_from
all_same p plane [] events uninterrupted = refl
all_same p plane (sample_span i j ∷ more) events uninterrupted =
    step p plane more _ _ (events ++ sample_event p plane i j events ∷ []) _ (sample_bits-same p plane i j events) (sample_after-same p plane i j events uninterrupted)
    (all_same p plane more (events ++ sample_event p plane i j events ∷ []) (sample_uninterrupted p plane i j events))
all_same p plane (run_span i j count true ∷ more) events uninterrupted =
    step p plane more _ _ (events ++ run (run_of count true) ∷ interrupting_sample_event p plane i (j + count) ∷ []) _
    (ap (λ bits. bits ++ interrupting_sample_bits p plane i (j + count) (index_at (run_index_after_events events) (run_of count true)) events) (run_bits-same p events (run_of count true))
    ∙ ap (λ bits. run_bits (state_of p events).run_index (run_of count true) ++ bits) (break_bits-same p plane i (j + count) events (run_of count true)))
    (interrupting_sample_after-same p plane i (j + count) events (run_of count true))
    (all_same p plane more (events ++ run (run_of count true) ∷ interrupting_sample_event p plane i (j + count) ∷ []) (break_uninterrupted p plane i (j + count) events (run_of count true)))
all_same p plane (run_span i j count false ∷ more) events uninterrupted =
    step p plane more _ _ (events ++ run (run_of count false) ∷ []) _ (run_bits-same p events (run_of count false)) (sym (state_of-run p events (run_of count false)))
    (all_same p plane more (events ++ run (run_of count false) ∷ []) (last_of events (run (run_of count false))))

-- a plane's bits from a scan's start on
pub plane_from : (p : Parameters) (plane : Plane) → plane_bits p plane ≡ bits_from plane (spans plane) (state_of p [])
unfolding plane_bits
plane_from p plane = all_same p plane (spans plane) [] refl
