-- A state, event by event.
use Rattle.std.proofs.Common.{◌≡◌, ℕ, ◌+◌, ◌^◌, ◌<◌, min, Bool, true, false, List, [], ◌∷◌, ◌++◌, map, fold, refl, sym, ◌∙◌, ap}
use Rattle.std.specs.List.{filter_map, range_with_len}
use Rattle.std.proofs.lemmas.List.{append-nil}
use Rattle.std.proofs.lemmas.List.Elements.{filter_map-append}
use Rattle.ls_frame.specs.Parameters.{Parameters}
use Rattle.ls_coding.specs.declared.run.Tail.{Tail}
use Rattle.ls_coding.specs.declared.run.RunWord.{RunWord}
use Rattle.ls_coding.specs.Runs.{Run, Walk, order, run_of, run_word, tail_of, walked}
use Rattle.ls_coding.specs.Stats.{Stats, stats_after}
use Rattle.ls_coding.specs.Interruptions.{Counts, counts_after}
use Rattle.ls_coding.specs.Events.{Event, run, error_of_regular_event, error_of_interruption_event, stats_after_events, counts_after_events, index_step, is_interrupted}
use Rattle.ls_coding.specs.View.States.{Coding, state_of, run_after}
use Rattle.ls_coding.proofs.RunLemmas.{walked_one, walked_part}

pub map_same : {A B : Type 0} → (f g : A → B) (xs : List A) → ((x : A) → f x ≡ g x) → map f xs ≡ map g xs
map_same f g [] e = refl
map_same f g (x ∷ xs) e = ap (λ y. y ∷ map f xs) (e x) ∙ ap (λ ys. g x ∷ ys) (map_same f g xs e)

pub fold-push : {A B : Type 0} → (f : B → A → B) (start : B) (xs : List A) (x : A) → fold f start (xs ++ x ∷ []) ≡ f (fold f start xs) x
fold-push f start [] x = refl
fold-push f start (y ∷ xs) x = fold-push f (f start y) xs x

pub walk_is : (w : Walk) (ones index left : ℕ) → ones ≡ w.ones → index ≡ w.index → left ≡ w.left → record { ones = ones; index = index; left = left } ≡ w
walk_is w ones index left a b c =
    ap (λ n. let walk : Walk = record { ones = n; index = index; left = left } in walk) a
    ∙ ap (λ n. let walk : Walk = record { ones = w.ones; index = n; left = left } in walk) b
    ∙ ap (λ n. let walk : Walk = record { ones = w.ones; index = w.index; left = n } in walk) c

abbrev pub made : Parameters → List Stats → Counts → Counts → ℕ → Bool → Coding
made p contexts ri_type_0 ri_type_1 run_index interrupted = record { parameters = p; contexts = contexts; ri_type_0 = ri_type_0; ri_type_1 = ri_type_1; run_index = run_index; interrupted = interrupted }

-- the same, by other parameters that are equal to these
pub alike_parameters : (p q : Parameters) (contexts : List Stats) (ri_type_0 ri_type_1 : Counts) (index : ℕ) (interrupted : Bool) → p ≡ q
    → made p contexts ri_type_0 ri_type_1 index interrupted ≡ made q contexts ri_type_0 ri_type_1 index interrupted
alike_parameters p q contexts ri_type_0 ri_type_1 index interrupted same = ap (λ (r : Parameters). made r contexts ri_type_0 ri_type_1 index interrupted) same

-- states with equal parts are equal
pub alike : (p : Parameters) (contexts others : List Stats) (ri_type_0 ri_type_0' ri_type_1 ri_type_1' : Counts) (index index' : ℕ) (interrupted interrupted' : Bool)
    → contexts ≡ others → ri_type_0 ≡ ri_type_0' → ri_type_1 ≡ ri_type_1' → index ≡ index' → interrupted ≡ interrupted'
    → made p contexts ri_type_0 ri_type_1 index interrupted ≡ made p others ri_type_0' ri_type_1' index' interrupted'
alike p contexts others ri_type_0 ri_type_0' ri_type_1 ri_type_1' index index' interrupted interrupted' a b c d e =
    ap (λ x. made p x ri_type_0 ri_type_1 index interrupted) a ∙ ap (λ x. made p others x ri_type_1 index interrupted) b ∙ ap (λ x. made p others ri_type_0' x index interrupted) c
    ∙ ap (λ x. made p others ri_type_0' ri_type_1' x interrupted) d ∙ ap (λ x. made p others ri_type_0' ri_type_1' index' x) e

pub stats_after_events-run : (p : Parameters) (events : List Event) (r : Run) (number : ℕ) → stats_after_events p number events ≡ stats_after_events p number (events ++ run r ∷ [])
stats_after_events-run p events r number =
    sym (ap (stats_after p) (filter_map-append (error_of_regular_event number) events (run r ∷ []) ∙ append-nil (filter_map (error_of_regular_event number) events)))

pub counts_after_events-run : (p : Parameters) (events : List Event) (r : Run) (ri_type_1 : Bool) → counts_after_events p ri_type_1 events ≡ counts_after_events p ri_type_1 (events ++ run r ∷ [])
counts_after_events-run p events r ri_type_1 =
    sym (ap (counts_after p ri_type_1) (filter_map-append (error_of_interruption_event ri_type_1) events (run r ∷ []) ∙ append-nil (filter_map (error_of_interruption_event ri_type_1) events)))

-- a run leaves the counters, raises RUNindex, and says whether a sample interrupts it
pub state_of-run : (p : Parameters) (events : List Event) (r : Run) → run_after (state_of p events) r ≡ state_of p (events ++ run r ∷ [])
unfolding state_of
state_of-run p events r =
    alike p _ _ _ _ _ _ _ _ _ _
    (map_same _ _ (range_with_len 0 365) (stats_after_events-run p events r))
    (counts_after_events-run p events r false)
    (counts_after_events-run p events r true)
    (sym (fold-push index_step 0 events (run r)))
    (sym (fold-push (λ (interrupted : Bool) (event : Event). is_interrupted event) false events (run r)))

pub state_after_run : (before after : Coding) (r : Run) → after ≡ run_after before r → (events : List Event) → before ≡ state_of before.parameters events
    → after ≡ state_of before.parameters (events ++ run r ∷ [])
state_after_run before after r step events e = step ∙ ap (λ s. run_after s r) e ∙ state_of-run before.parameters events r

-- a run's word, from its bits 1 and its tail
abbrev word : ℕ → Tail → RunWord
word ones tail = record { ones = ones; tail = tail }

pub word_is : (index inside count ones at left : ℕ) (interrupted : Bool) (tail : Tail) → inside ≡ index
    → ones ≡ (walked inside count).ones → at ≡ (walked inside count).index → left ≡ (walked inside count).left
    → tail ≡ tail_of interrupted (record { ones = ones; index = at; left = left })
    → word ones tail ≡ run_word index (run_of count interrupted)
unfolding run_word
word_is index inside count ones at left interrupted tail same a b c e =
    let walk : Walk = record { ones = ones; index = at; left = left } in
    let come : walk ≡ walked index count = walk_is (walked inside count) ones at left a b c ∙ ap (λ n. walked n count) same in
    ap (word ones) e ∙ ap (λ (w : Walk). word w.ones (tail_of interrupted w)) come

-- ---- a run as it is read

-- its end, before the sample that interrupts it
pub break_after : (s : Coding) (rest : ℕ) → rest < 2 ^ order s.run_index → made s.parameters s.contexts s.ri_type_0 s.ri_type_1 s.run_index true ≡ run_after s (run_of rest true)
break_after s rest h = ap (λ i. made s.parameters s.contexts s.ri_type_0 s.ri_type_1 i true) (sym (ap (λ (w : Walk). w.index) (walked_part s.run_index rest h)))

-- a bit 1 for the samples left in the line
pub part_after : (s : Coding) (left : ℕ) → left < 2 ^ order s.run_index → s.interrupted ≡ false → s ≡ run_after s (run_of left false)
part_after s left h uninterrupted =
    ap (λ b. made s.parameters s.contexts s.ri_type_0 s.ri_type_1 s.run_index b) uninterrupted
    ∙ ap (λ i. made s.parameters s.contexts s.ri_type_0 s.ri_type_1 i false) (sym (ap (λ (w : Walk). w.index) (walked_part s.run_index left h)))

-- a bit 1 for 2^J samples
pub one_after : (s : Coding) (index samples : ℕ) → index ≡ min (s.run_index + 1) 31 → samples ≡ 2 ^ order s.run_index → s.interrupted ≡ false
    → made s.parameters s.contexts s.ri_type_0 s.ri_type_1 index s.interrupted ≡ run_after s (run_of samples false)
one_after s index samples e f uninterrupted =
    ap (λ b. made s.parameters s.contexts s.ri_type_0 s.ri_type_1 index b) uninterrupted
    ∙ ap (λ i. made s.parameters s.contexts s.ri_type_0 s.ri_type_1 i false) (e ∙ sym (ap (λ (w : Walk). w.index) (ap (walked s.run_index) f ∙ walked_one s.run_index)))
