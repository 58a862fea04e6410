-- Bits that break where a run or a word is due break there in one way, and then begin with no run and no word.
use Rattle.std.proofs.Common.{◌≡◌, ℕ, ◌+◌, ◌-◌, ◌^◌, ◌<◌, ◌≤◌, min, Bool, true, false, List, [], ◌∷◌, ◌++◌, length, length-append, inl, inr, refl, sym, ◌∙◌, ap, subst, mod-eq_of_lt, arith}
use Rattle.ls_frame.specs.Parameters.{Parameters, IsLegal, limit_of, qbpp_of}
use Rattle.ls_bits.specs.declared.source.CodeFault.{CodeFault}
use Rattle.ls_bits.specs.declared.source.CodeFault.TheVariants.{OutOfBits, NotCanonical}
use Rattle.ls_bits.specs.Bits.{bits_of}
use Rattle.ls_bits.specs.Golomb.{IsGolomb, TakesWord, GolombFault}
use Rattle.ls_bits.proofs.BitLemmas.{length-bits_of}
use Rattle.ls_bits.proofs.GolombLaws.{same_low, same_word, canonical}
use Rattle.ls_coding.specs.declared.neighbours.Neighbours.{Neighbours}
use Rattle.ls_coding.specs.Samples.{AreSamples, Interrupts}
use Rattle.ls_coding.specs.Contexts.{context_of}
use Rattle.ls_coding.specs.Interruptions.{Counts, ri_type_of, interruption_k}
use Rattle.ls_coding.specs.Numbers.{golomb_parameter}
use Rattle.ls_coding.specs.Stats.{Stats}
use Rattle.ls_coding.specs.Runs.{Run, order, run_of, run_bits, index_at}
use Rattle.ls_coding.specs.Events.{Event, run_index_after_events, golomb_bits}
use Rattle.ls_coding.specs.Lawful.{IsLawful}
use Rattle.ls_coding.specs.View.Plans.{Planned, regular_plan_by, regular_plan, interruption_plan_by, interruption_plan}
use Rattle.ls_coding.specs.View.States.{Coding, state_of, regular_word_in, run_after, interruption_word_in}
use Rattle.ls_coding.proofs.CostLemmas.{stats_after_events-sound, counts_after_events-sound}
use Rattle.ls_coding.proofs.EventLemmas.{stats_in-state}
use Rattle.ls_coding.proofs.OnceLemmas.{regular_value_in, interruption_value_in}
use Rattle.ls_coding.proofs.RegularLemmas.{context_small}
use Rattle.ls_coding.proofs.WordLemmas.{regular_code, interruption_code}
use Rattle.ls_stream.specs.View.BitFaults.{BreaksWord, BreaksSample, BreaksInterruption, BreaksRun, bits_end, after_one, rest_ends, no_room}
use Rattle.ls_stream.specs.View.Decoding.{EndsInLine}
use Rattle.ls_stream.proofs.CodedLemmas.{either}
use Rattle.ls_stream.proofs.RunReadingLemmas.{RunBegins, whole_one, part_one, break, begins, ends_later, one_or_zero, same_later, no_begin, few_begin}

-- ---- a run

no_bits : (bit : Bool) (x : List Bool) → [] ≡ bit ∷ x → ⊥
no_bits bit x e = absurd (omega (arith, ap length e))

too_short : (index count : ℕ) (x more : List Bool) → false ∷ x ≡ false ∷ (bits_of (order index) count ++ more) → length x < order index → ⊥
too_short index count x more e short =
    absurd (omega (arith, ap length (same_later false false _ _ e), length-append (bits_of (order index) count) more, length-bits_of (order index) count))

-- bits that break a run break it in one way
pub one_run_fault : (index left : ℕ) (bits others : List Bool) (f g : CodeFault) → BreaksRun index left bits f → BreaksRun index left others g → bits ≡ others → f ≡ g
one_run_fault index left bits others f g (bits_end e fault) (bits_end e' fault') same = fault ∙ sym fault'
one_run_fault index left bits others f g (bits_end e fault) (after_one more e' less later) same = absurd (no_bits true more (sym e ∙ same ∙ e'))
one_run_fault index left bits others f g (bits_end e fault) (rest_ends more e' short fault') same = fault ∙ sym fault'
one_run_fault index left bits others f g (bits_end e fault) (no_room count more e' fits room fault') same = absurd (no_bits false _ (sym e ∙ same ∙ e'))
one_run_fault index left bits others f g (after_one more e less later) (bits_end e' fault') same = absurd (no_bits true more (sym e' ∙ sym same ∙ e))
one_run_fault index left bits others f g (after_one more e less later) (after_one more' e' less' later') same =
    one_run_fault (min (index + 1) 31) (left - 2 ^ order index) more more' f g later later' (same_later true true _ _ (sym e ∙ same ∙ e'))
one_run_fault index left bits others f g (after_one more e less later) (rest_ends more' e' short fault') same = absurd (one_or_zero _ _ (sym e ∙ same ∙ e'))
one_run_fault index left bits others f g (after_one more e less later) (no_room count more' e' fits room fault') same = absurd (one_or_zero _ _ (sym e ∙ same ∙ e'))
one_run_fault index left bits others f g (rest_ends more e short fault) (bits_end e' fault') same = fault ∙ sym fault'
one_run_fault index left bits others f g (rest_ends more e short fault) (after_one more' e' less' later') same = absurd (one_or_zero _ _ (sym e' ∙ sym same ∙ e))
one_run_fault index left bits others f g (rest_ends more e short fault) (rest_ends more' e' short' fault') same = fault ∙ sym fault'
one_run_fault index left bits others f g (rest_ends more e short fault) (no_room count more' e' fits room fault') same = absurd (too_short index count more more' (sym e ∙ same ∙ e') short)
one_run_fault index left bits others f g (no_room count more e fits room fault) (bits_end e' fault') same = absurd (no_bits false _ (sym e' ∙ sym same ∙ e))
one_run_fault index left bits others f g (no_room count more e fits room fault) (after_one more' e' less' later') same = absurd (one_or_zero _ _ (sym e' ∙ sym same ∙ e))
one_run_fault index left bits others f g (no_room count more e fits room fault) (rest_ends more' e' short' fault') same = absurd (too_short index count more' more (sym e' ∙ sym same ∙ e) short')
one_run_fault index left bits others f g (no_room count more e fits room fault) (no_room count' more' e' fits' room' fault') same = fault ∙ sym fault'

-- and then the bits begin with no run
not_begun : (index left count : ℕ) (interrupted : Bool) (bits rest : List Bool) (f : CodeFault) → BreaksRun index left bits f → 0 < left → EndsInLine left count interrupted
    → RunBegins index left count interrupted bits rest → ⊥
not_begun index left count interrupted bits rest f (bits_end e fault) some ends b = no_begin index left count interrupted bits rest e b
not_begun index left count interrupted bits rest f (rest_ends more e short fault) some ends b = few_begin index left count interrupted bits more rest e short b
not_begun index left count interrupted bits rest f (after_one more e less later) some ends (whole_one enough g) =
    let sooner : EndsInLine (left - 2 ^ order index) (count - 2 ^ order index) interrupted = ends_later left (2 ^ order index) count interrupted enough (omega arith) ends in
    not_begun (min (index + 1) 31) (left - 2 ^ order index) (count - 2 ^ order index) interrupted more rest f later (omega arith) sooner
    (begins (min (index + 1) 31) (left - 2 ^ order index) (count - 2 ^ order index) interrupted more rest (omega arith) sooner (same_later true true _ _ (sym e ∙ g)))
not_begun index left count interrupted bits rest f (after_one more e less later) some ends (part_one is full few g) = absurd (omega arith)
not_begun index left count interrupted bits rest f (after_one more e less later) some ends (break is short few g) = absurd (one_or_zero _ _ (sym e ∙ g))
not_begun index left count interrupted bits rest f (no_room found more e fits room fault) some ends (whole_one enough g) = absurd (one_or_zero _ _ (sym g ∙ e))
not_begun index left count interrupted bits rest f (no_room found more e fits room fault) some ends (part_one is full few g) = absurd (one_or_zero _ _ (sym g ∙ e))
not_begun index left count interrupted bits rest f (no_room found more e fits room fault) some ends (break is short few g) =
    let low = same_low (order index) found count more rest (same_later false false _ _ (sym e ∙ g)) in
    let same : found ≡ count = sym (mod-eq_of_lt fits) ∙ low.0 ∙ mod-eq_of_lt few in
    absurd (omega arith)

pub no_run : (index left count : ℕ) (interrupted : Bool) (bits rest : List Bool) (f : CodeFault) → BreaksRun index left bits f → 0 < left → EndsInLine left count interrupted
    → bits ≡ run_bits index (run_of count interrupted) ++ rest → ⊥
no_run index left count interrupted bits rest f fault some ends e = not_begun index left count interrupted bits rest f fault some ends (begins index left count interrupted bits rest some ends e)

-- ---- a sample's word

golomb_once : (k glimit qbpp : ℕ) (bits : List Bool) (f g : CodeFault) → GolombFault k glimit qbpp bits f → GolombFault k glimit qbpp bits g → f ≡ g
golomb_once k glimit qbpp bits OutOfBits OutOfBits h h' = refl
golomb_once k glimit qbpp bits OutOfBits NotCanonical h h' = absurd (h.1 h')
golomb_once k glimit qbpp bits NotCanonical OutOfBits h h' = absurd (h'.1 h)
golomb_once k glimit qbpp bits NotCanonical NotCanonical h h' = refl

-- a word at the front leaves one fault
golomb_word : (k glimit qbpp value : ℕ) (bits rest : List Bool) (f g : CodeFault) → GolombFault k glimit qbpp bits f → TakesWord k glimit qbpp bits value rest → g ≡ NotCanonical → f ≡ g
golomb_word k glimit qbpp value bits rest OutOfBits g h takes e = absurd (h.0 value takes.value (rest, takes.word))
golomb_word k glimit qbpp value bits rest NotCanonical g h takes e = sym e

one_word_fault : (plan : Planned) (value_of : ℕ → ℕ) (IsSample : ℕ → Type 0) (qbpp : ℕ) (bits : List Bool) (f g : CodeFault)
    → BreaksWord plan value_of IsSample qbpp bits f → BreaksWord plan value_of IsSample qbpp bits g → f ≡ g
one_word_fault plan value_of IsSample qbpp bits f g (inl h) (inl h') = golomb_once plan.k plan.glimit qbpp bits f g h h'
one_word_fault plan value_of IsSample qbpp bits f g (inl h) (inr h') = golomb_word plan.k plan.glimit qbpp h'.0 bits h'.1 f g h h'.2 h'.4
one_word_fault plan value_of IsSample qbpp bits f g (inr h) (inl h') = sym (golomb_word plan.k plan.glimit qbpp h.0 bits h.1 g f h' h.2 h.4)
one_word_fault plan value_of IsSample qbpp bits f g (inr h) (inr h') = h.4 ∙ sym h'.4

golomb_no_word : (k glimit qbpp value : ℕ) (bits rest : List Bool) (f : CodeFault) → IsGolomb k glimit qbpp → GolombFault k glimit qbpp bits f → TakesWord k glimit qbpp bits value rest → ⊥
golomb_no_word k glimit qbpp value bits rest OutOfBits code h takes = h.0 value takes.value (rest, takes.word)
golomb_no_word k glimit qbpp value bits rest NotCanonical code h takes = canonical k glimit qbpp bits value rest code takes h

-- and then the bits begin with no sample's word
no_word : (plan : Planned) (value_of : ℕ → ℕ) (IsSample : ℕ → Type 0) (qbpp x : ℕ) (bits rest : List Bool) (f : CodeFault) → IsGolomb plan.k plan.glimit qbpp
    → IsSample x → TakesWord plan.k plan.glimit qbpp bits (value_of x) rest → BreaksWord plan value_of IsSample qbpp bits f → ⊥
no_word plan value_of IsSample qbpp x bits rest f code is takes (inl h) = golomb_no_word plan.k plan.glimit qbpp (value_of x) bits rest f code h takes
no_word plan value_of IsSample qbpp x bits rest f code is takes (inr h) =
    h.3 x is (same_word plan.k plan.glimit qbpp bits (value_of x) h.0 rest h.1 code takes h.2).0

pub one_sample_fault : (s : Coding) (n : Neighbours) (bits : List Bool) (f g : CodeFault) → BreaksSample s n bits f → BreaksSample s n bits g → f ≡ g
one_sample_fault s n bits f g h h' =
    one_word_fault (regular_plan s n) (λ sample. (regular_word_in s n sample).value) (λ sample. sample ≤ s.parameters.maxval) (qbpp_of s.parameters.maxval) bits f g h h'

pub one_interruption_fault : (s : Coding) (n : Neighbours) (bits : List Bool) (f g : CodeFault) → BreaksInterruption s n bits f → BreaksInterruption s n bits g → f ≡ g
one_interruption_fault s n bits f g h h' =
    one_word_fault (interruption_plan s n) (λ sample. (interruption_word_in s n sample).value) (Interrupts s.parameters.maxval n.a) (qbpp_of s.parameters.maxval) bits f g h h'

-- ---- after lawful events

regular_golomb : (p : Parameters) (events : List Event) (n : Neighbours) → IsLegal p → IsLawful p events
    → IsGolomb (regular_plan (state_of p events) n).k (regular_plan (state_of p events) n).glimit (qbpp_of p.maxval)
unfolding state_of regular_plan_by
regular_golomb p events n legal lawful =
    subst (λ (t : Stats). IsGolomb (golomb_parameter t.n t.a) (limit_of p.maxval) (qbpp_of p.maxval)) (sym (stats_in-state p events (context_of p n).number (context_small p n)))
    (regular_code p.reset p.maxval _ legal.some_maxval legal.maxval (stats_after_events-sound p events (context_of p n).number legal lawful))

pub no_sample_word : (p : Parameters) (events : List Event) (n : Neighbours) (x : ℕ) (bits rest : List Bool) (f : CodeFault) → IsLegal p → IsLawful p events → x ≤ p.maxval
    → BreaksSample (state_of p events) n bits f → bits ≡ golomb_bits (state_of p events).parameters (regular_word_in (state_of p events) n x) ++ rest → ⊥
unfolding state_of regular_plan_by regular_word_in
no_sample_word p events n x bits rest f legal lawful small fault e =
    no_word (regular_plan (state_of p events) n) (λ sample. (regular_word_in (state_of p events) n sample).value) (λ sample. sample ≤ p.maxval) (qbpp_of p.maxval) x bits rest f
    (regular_golomb p events n legal lawful) small
    (record { value = regular_value_in (state_of p events) n x legal.some_maxval legal.maxval small; word = e }) fault

interruption_golomb : (p : Parameters) (events : List Event) (r : Run) (n : Neighbours) → IsLegal p → IsLawful p events
    → IsGolomb (interruption_plan (run_after (state_of p events) r) n).k (interruption_plan (run_after (state_of p events) r) n).glimit (qbpp_of p.maxval)
unfolding state_of interruption_plan_by
interruption_golomb p events r n legal lawful =
    let index : ℕ = index_at (run_index_after_events events) r in
    subst (λ (t : Counts). IsGolomb (interruption_k (ri_type_of n) t) (limit_of p.maxval - order index - 1) (qbpp_of p.maxval)) (sym (either p events (ri_type_of n)))
    (interruption_code (ri_type_of n) p.reset p.maxval index _ legal.some_maxval legal.maxval (counts_after_events-sound p events (ri_type_of n) legal lawful))

pub no_interruption_word : (p : Parameters) (events : List Event) (r : Run) (n : Neighbours) (x : ℕ) (bits rest : List Bool) (f : CodeFault) → IsLegal p → IsLawful p events
    → AreSamples p.maxval n → Interrupts p.maxval n.a x → BreaksInterruption (run_after (state_of p events) r) n bits f
    → bits ≡ golomb_bits (run_after (state_of p events) r).parameters (interruption_word_in (run_after (state_of p events) r) n x) ++ rest → ⊥
unfolding state_of interruption_plan_by interruption_word_in
no_interruption_word p events r n x bits rest f legal lawful samples interrupts fault e =
    no_word (interruption_plan (run_after (state_of p events) r) n) (λ sample. (interruption_word_in (run_after (state_of p events) r) n sample).value) (Interrupts p.maxval n.a) (qbpp_of p.maxval) x bits rest f
    (interruption_golomb p events r n legal lawful) interrupts
    (record { value = interruption_value_in (run_after (state_of p events) r) n x legal.some_maxval legal.maxval samples interrupts.within; word = e }) fault
