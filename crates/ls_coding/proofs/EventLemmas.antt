-- The state after a list of events with one more event.
use Rattle.std.proofs.Common.{◌≡◌, ◌≢◌, ℕ, ◌<◌, Bool, true, false, ℤ, pos, List, [], ◌∷◌, ◌++◌, refl, sym, ◌∙◌, ap, arith}
use Rattle.std.specs.Prelude.{Option}
use Rattle.std.specs.List.{filter_map, range_with_len}
use Rattle.std.proofs.lemmas.Bool.{eq-eqb, ne_eqb}
use Rattle.std.proofs.lemmas.List.{append-nil}
use Rattle.std.proofs.lemmas.List.Elements.{filter_map-append}
use Rattle.std.proofs.lemmas.List.FromFn.{get_or-map-range_with_len}
use Rattle.ls_frame.specs.Parameters.{Parameters}
use Rattle.ls_coding.specs.declared.neighbours.Neighbours.{Neighbours}
use Rattle.ls_coding.specs.Contexts.{context_of}
use Rattle.ls_coding.specs.Stats.{Stats, stats, stats_step, stats_after, first_stats}
use Rattle.ls_coding.specs.Interruptions.{Counts, counts_step, counts_after, first_counts, ri_type_of, interruption_error}
use Rattle.ls_coding.specs.Events.{Event, regular, interruption, error_of_regular_event, error_of_interruption_event, stats_after_events, counts_after_events, run_index_after_events, interrupted_after_events, index_step, is_interrupted, regular_error_of, regular_word, interruption_word}
use Rattle.ls_coding.specs.View.States.{Coding, state_of, stats_in, counts_in, context_in, regular_error_in, regular_word_in, regular_after, interruption_word_in, interruption_after}
use Rattle.ls_coding.proofs.FieldLemmas.{map_set}
use Rattle.ls_coding.proofs.RegularLemmas.{context_small}
use Rattle.ls_coding.proofs.StateLemmas.{alike, fold-push, map_same}

-- ---- one more error in one context, and none in the others

filter_push : {A B : Type 0} → (f : A → Option B) (xs : List A) (x : A) → filter_map f (xs ++ x ∷ []) ≡ filter_map f xs ++ filter_map f (x ∷ [])
filter_push f xs x = filter_map-append f xs (x ∷ [])

stats_push : (p : Parameters) (errors : List ℤ) (e : ℤ) → stats_after p (errors ++ e ∷ []) ≡ stats_step p.reset (stats_after p errors) e
stats_push p errors e = fold-push (stats_step p.reset) (first_stats p) errors e

counts_push : (p : Parameters) (ri_type : Bool) (errors : List ℤ) (e : ℤ) → counts_after p ri_type (errors ++ e ∷ []) ≡ counts_step ri_type p.reset (counts_after p ri_type errors) e
counts_push p ri_type errors e = fold-push (counts_step ri_type p.reset) (first_counts p) errors e

own_error : (number : ℕ) (e : ℤ) → filter_map (error_of_regular_event number) (regular number e ∷ []) ≡ e ∷ []
own_error number e = rw (eq-eqb number number refl) refl

others_error : (number other : ℕ) (e : ℤ) → number ≢ other → filter_map (error_of_regular_event number) (regular other e ∷ []) ≡ []
others_error number other e h = rw (ne_eqb number other h) refl

pub stats_after_events-own : (p : Parameters) (events : List Event) (number : ℕ) (e : ℤ) → stats_after_events p number (events ++ regular number e ∷ []) ≡ stats_step p.reset (stats_after_events p number events) e
stats_after_events-own p events number e =
    ap (stats_after p) (filter_push (error_of_regular_event number) events (regular number e) ∙ ap (λ errors. filter_map (error_of_regular_event number) events ++ errors) (own_error number e))
    ∙ stats_push p (filter_map (error_of_regular_event number) events) e

pub stats_after_events-other : (p : Parameters) (events : List Event) (number other : ℕ) (e : ℤ) → number ≢ other → stats_after_events p number (events ++ regular other e ∷ []) ≡ stats_after_events p number events
stats_after_events-other p events number other e h =
    ap (stats_after p) (filter_push (error_of_regular_event number) events (regular other e) ∙ ap (λ errors. filter_map (error_of_regular_event number) events ++ errors) (others_error number other e h) ∙ append-nil (filter_map (error_of_regular_event number) events))

pub counts_after_events-regular : (p : Parameters) (events : List Event) (number : ℕ) (e : ℤ) (ri_type : Bool) → counts_after_events p ri_type events ≡ counts_after_events p ri_type (events ++ regular number e ∷ [])
counts_after_events-regular p events number e ri_type =
    sym (ap (counts_after p ri_type) (filter_push (error_of_interruption_event ri_type) events (regular number e) ∙ append-nil (filter_map (error_of_interruption_event ri_type) events)))

pub stats_after_events-interruption : (p : Parameters) (events : List Event) (ri_type : Bool) (e : ℤ) (number : ℕ) → stats_after_events p number events ≡ stats_after_events p number (events ++ interruption ri_type e ∷ [])
stats_after_events-interruption p events ri_type e number =
    sym (ap (stats_after p) (filter_push (error_of_regular_event number) events (interruption ri_type e) ∙ append-nil (filter_map (error_of_regular_event number) events)))

pub counts_after_events-own : (p : Parameters) (events : List Event) (ri_type : Bool) (e : ℤ) → counts_after_events p ri_type (events ++ interruption ri_type e ∷ []) ≡ counts_step ri_type p.reset (counts_after_events p ri_type events) e
counts_after_events-own p events true e = ap (counts_after p true) (filter_push (error_of_interruption_event true) events (interruption true e)) ∙ counts_push p true (filter_map (error_of_interruption_event true) events) e
counts_after_events-own p events false e = ap (counts_after p false) (filter_push (error_of_interruption_event false) events (interruption false e)) ∙ counts_push p false (filter_map (error_of_interruption_event false) events) e

pub ri_type_1_kept : (p : Parameters) (events : List Event) (e : ℤ) → counts_after_events p true events ≡ counts_after_events p true (events ++ interruption false e ∷ [])
ri_type_1_kept p events e =
    sym (ap (counts_after p true) (filter_push (error_of_interruption_event true) events (interruption false e) ∙ append-nil (filter_map (error_of_interruption_event true) events)))

pub ri_type_0_kept : (p : Parameters) (events : List Event) (e : ℤ) → counts_after_events p false events ≡ counts_after_events p false (events ++ interruption true e ∷ [])
ri_type_0_kept p events e =
    sym (ap (counts_after p false) (filter_push (error_of_interruption_event false) events (interruption true e) ∙ append-nil (filter_map (error_of_interruption_event false) events)))

-- ---- a sample of regular mode

pub stats_in-state : (p : Parameters) (events : List Event) (number : ℕ) → number < 365 → stats_in (state_of p events) number ≡ stats_after_events p number events
unfolding state_of
stats_in-state p events number h = get_or-map-range_with_len (λ number. stats_after_events p number events) 0 365 number number (stats 0 (pos 0) (pos 0) 0) h (omega arith)

pub state_of-regular : (p : Parameters) (events : List Event) (number : ℕ) (e : ℤ) → number < 365 → interrupted_after_events events ≡ false
    → regular_after (state_of p events) number e ≡ state_of p (events ++ regular number e ∷ [])
unfolding state_of
state_of-regular p events number e h uninterrupted =
    alike p _ _ _ _ _ _ _ _ _ _
    (sym (map_set (λ j. stats_after_events p j events) (λ j. stats_after_events p j (events ++ regular number e ∷ [])) 365 number _ h
    (stats_after_events-own p events number e ∙ ap (λ (t : Stats). stats_step p.reset t e) (sym (stats_in-state p events number h)))
    (λ j low other. stats_after_events-other p events j number e other)))
    (counts_after_events-regular p events number e false)
    (counts_after_events-regular p events number e true)
    (sym (fold-push index_step 0 events (regular number e)))
    (uninterrupted ∙ sym (fold-push (λ (interrupted : Bool) (event : Event). is_interrupted event) false events (regular number e)))

interrupted_of-state : (p : Parameters) (events : List Event) → (state_of p events).interrupted ≡ interrupted_after_events events
unfolding state_of
interrupted_of-state p events = refl

pub state_after_regular : (before after : Coding) (x : Neighbours) (sample : ℕ) → before.interrupted ≡ false
    → after ≡ regular_after before (context_in before x).number (regular_error_in before x sample)
    → (events : List Event) → before ≡ state_of before.parameters events
    → after ≡ state_of before.parameters (events ++ regular (context_in before x).number
    (regular_error_of before.parameters (context_in before x) (stats_after_events before.parameters (context_in before x).number events) x sample) ∷ [])
unfolding regular_error_in
state_after_regular before after x sample uninterrupted step events e =
    let p : Parameters = before.parameters in
    let number : ℕ = (context_of p x).number in
    let known : stats_in before number ≡ stats_after_events p number events = ap (λ (s : Coding). stats_in s number) e ∙ stats_in-state p events number (context_small p x) in
    step
    ∙ ap (λ (t : Stats). regular_after before number (regular_error_of p (context_of p x) t x sample)) known
    ∙ ap (λ (s : Coding). regular_after s number (regular_error_of p (context_of p x) (stats_after_events p number events) x sample)) e
    ∙ state_of-regular p events number (regular_error_of p (context_of p x) (stats_after_events p number events) x sample) (context_small p x) (sym (interrupted_of-state p events) ∙ sym (ap (λ (s : Coding). s.interrupted) e) ∙ uninterrupted)

pub word_of_regular : (before : Coding) (x : Neighbours) (sample : ℕ) (events : List Event) → before ≡ state_of before.parameters events
    → regular_word_in before x sample ≡ regular_word before.parameters (stats_after_events before.parameters (context_in before x).number events)
    (regular_error_of before.parameters (context_in before x) (stats_after_events before.parameters (context_in before x).number events) x sample)
unfolding regular_error_in regular_word_in
word_of_regular before x sample events e =
    let p : Parameters = before.parameters in
    let number : ℕ = (context_of p x).number in
    let known : stats_in before number ≡ stats_after_events p number events = ap (λ (s : Coding). stats_in s number) e ∙ stats_in-state p events number (context_small p x) in
    ap (λ (t : Stats). regular_word p t (regular_error_of p (context_of p x) t x sample)) known

-- ---- the sample that interrupts a run

pub state_of-interruption : (p : Parameters) (events : List Event) (ri_type : Bool) (e : ℤ) → interruption_after (state_of p events) ri_type e ≡ state_of p (events ++ interruption ri_type e ∷ [])
unfolding state_of
state_of-interruption p events true e =
    alike p _ _ _ _ _ _ _ _ _ _ (map_same _ _ (range_with_len 0 365) (stats_after_events-interruption p events true e))
    (ri_type_0_kept p events e) (sym (counts_after_events-own p events true e))
    (sym (fold-push index_step 0 events (interruption true e)))
    (sym (fold-push (λ (interrupted : Bool) (event : Event). is_interrupted event) false events (interruption true e)))
state_of-interruption p events false e =
    alike p _ _ _ _ _ _ _ _ _ _ (map_same _ _ (range_with_len 0 365) (stats_after_events-interruption p events false e))
    (sym (counts_after_events-own p events false e)) (ri_type_1_kept p events e)
    (sym (fold-push index_step 0 events (interruption false e)))
    (sym (fold-push (λ (interrupted : Bool) (event : Event). is_interrupted event) false events (interruption false e)))

pub state_after_interruption : (before after : Coding) (ri_type : Bool) (e : ℤ) → after ≡ interruption_after before ri_type e
    → (events : List Event) → before ≡ state_of before.parameters events → after ≡ state_of before.parameters (events ++ interruption ri_type e ∷ [])
state_after_interruption before after ri_type e step events same = step ∙ ap (λ (s : Coding). interruption_after s ri_type e) same ∙ state_of-interruption before.parameters events ri_type e

counts_in-state : (p : Parameters) (events : List Event) (ri_type : Bool) → counts_in (state_of p events) ri_type ≡ counts_after_events p ri_type events
unfolding state_of
counts_in-state p events true = refl
counts_in-state p events false = refl

index_of-state : (p : Parameters) (events : List Event) → (state_of p events).run_index ≡ run_index_after_events events
unfolding state_of
index_of-state p events = refl

pub word_of_interruption : (before : Coding) (x : Neighbours) (sample : ℕ) (events : List Event) → before ≡ state_of before.parameters events
    → interruption_word_in before x sample ≡ interruption_word before.parameters (run_index_after_events events) (ri_type_of x) (counts_after_events before.parameters (ri_type_of x) events) (interruption_error before.parameters x sample)
unfolding interruption_word_in
word_of_interruption before x sample events e =
    let p : Parameters = before.parameters in
    ap (λ (index : ℕ). interruption_word p index (ri_type_of x) (counts_in before (ri_type_of x)) (interruption_error p x sample)) (ap (λ (s : Coding). s.run_index) e ∙ index_of-state p events)
    ∙ ap (λ (t : Counts). interruption_word p (run_index_after_events events) (ri_type_of x) t (interruption_error p x sample)) (ap (λ (s : Coding). counts_in s (ri_type_of x)) e ∙ counts_in-state p events (ri_type_of x))
