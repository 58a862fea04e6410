-- A sample of regular mode, in a state's model.
use Rattle.std.proofs.Common.{◌≡◌, ℕ, ◌<◌, ◌≤◌, Bool, List, get_or, ℤ, pos, neg_ℤ, ◌+ℤ◌, ◌≤ℤ◌, refl, sym, ◌∙◌, ap, subst, arith}
use Rattle.std.specs.Prelude.{int_lt, unsigned_abs, if◌then◌else◌, Result, Ok, Err, IfOk, IfErr}
use Rattle.std.proofs.Math.ListN.{set}
use Rattle.std.proofs.lemmas.Int.{ints}
use Rattle.std.proofs.lemmas.List.FromFn.{get_or-map-range_with_len}
use Rattle.ls_frame.specs.Parameters.{Parameters}
use Rattle.ls_coding.specs.declared.neighbours.Neighbours.{Neighbours}
use Rattle.ls_coding.specs.Contexts.{context_of, signed}
use Rattle.ls_coding.specs.View.SignedContexts.{signed_context}
use Rattle.ls_coding.specs.Numbers.{clamped}
use Rattle.ls_coding.specs.Errors.{median, error_of, is_inverted, mapped_error}
use Rattle.ls_coding.specs.Stats.{Stats, stats, stats_step}
use Rattle.ls_coding.specs.Interruptions.{Counts}
use Rattle.ls_coding.specs.Events.{regular_error_of, regular_word}
use Rattle.ls_coding.specs.View.States.{Coding, stats_in, context_in, regular_error_in, regular_word_in, regular_after}
use Rattle.ls_coding.specs.View.Fields.{stats_at, contexts_of}
use Rattle.ls_coding.specs.View.Plans.{Planned, regular_plan_by, regular_plan, IsReadBy, IsTheSample, NoSample}
use Rattle.ls_coding.proofs.ContextLemmas.{signed_range, signed_splits}
use Rattle.ls_coding.proofs.StatsLemmas.{choose, lt_false}
use Rattle.ls_coding.proofs.StateLemmas.{made}

-- ---- a context's number is below 365

size_small : (z : ℤ) → neg_ℤ (pos 364) ≤ℤ z → z ≤ℤ pos 364 → unsigned_abs z < 365
size_small z low high = grind (arith, ints)

pub context_small : (p : Parameters) (n : Neighbours) → (context_of p n).number < 365
context_small p n =
    let small : unsigned_abs (signed_context p n) < 365 = size_small (signed_context p n) (signed_range p n).0 (signed_range p n).1 in
    omega (arith, (signed_splits p n).0)

-- ---- the counters in a model

pub stats_in_view : (a n : List ℕ) (b c : List ℤ) (number : ℕ) → number < 365 → get_or (contexts_of a b c n) number (stats 0 (pos 0) (pos 0) 0) ≡ stats_at a b c n number
unfolding contexts_of
stats_in_view a n b c number h = get_or-map-range_with_len (stats_at a b c n) 0 365 number number (stats 0 (pos 0) (pos 0) 0) h (omega arith)

pub word_in_view : (p : Parameters) (a n : List ℕ) (b c : List ℤ) (ri_type_0 ri_type_1 : Counts) (index : ℕ) (interrupted : Bool) (x : Neighbours) (sample : ℕ)
    → regular_word p (stats_at a b c n (context_of p x).number) (regular_error_of p (context_of p x) (stats_at a b c n (context_of p x).number) x sample)
    ≡ regular_word_in (made p (contexts_of a b c n) ri_type_0 ri_type_1 index interrupted) x sample
unfolding regular_word_in regular_error_in
word_in_view p a n b c ri_type_0 ri_type_1 index interrupted x sample =
    ap (λ (t : Stats). regular_word p t (regular_error_of p (context_of p x) t x sample)) (sym (stats_in_view a n b c (context_of p x).number (context_small p x)))

pub step_in_view : (p : Parameters) (a n : List ℕ) (b c : List ℤ) (ri_type_0 ri_type_1 : Counts) (index : ℕ) (interrupted : Bool) (x : Neighbours) (sample : ℕ)
    → stats_step p.reset (stats_at a b c n (context_of p x).number) (regular_error_of p (context_of p x) (stats_at a b c n (context_of p x).number) x sample)
    ≡ stats_step p.reset (stats_in (made p (contexts_of a b c n) ri_type_0 ri_type_1 index interrupted) (context_of p x).number)
    (regular_error_in (made p (contexts_of a b c n) ri_type_0 ri_type_1 index interrupted) x sample)
unfolding regular_error_in
step_in_view p a n b c ri_type_0 ri_type_1 index interrupted x sample =
    ap (λ (t : Stats). stats_step p.reset t (regular_error_of p (context_of p x) t x sample)) (sym (stats_in_view a n b c (context_of p x).number (context_small p x)))

pub plan_in_view : (p : Parameters) (a n : List ℕ) (b c : List ℤ) (ri_type_0 ri_type_1 : Counts) (index : ℕ) (interrupted : Bool) (x : Neighbours)
    → regular_plan_by p (context_of p x) (stats_at a b c n (context_of p x).number) x ≡ regular_plan (made p (contexts_of a b c n) ri_type_0 ri_type_1 index interrupted) x
plan_in_view p a n b c ri_type_0 ri_type_1 index interrupted x =
    ap (λ (t : Stats). regular_plan_by p (context_of p x) t x) (sym (stats_in_view a n b c (context_of p x).number (context_small p x)))

pub neighbours_of_regular : (s : Coding) (x : Neighbours) → (regular_plan s x).neighbours ≡ x
unfolding regular_plan_by
neighbours_of_regular s x = refl

-- the words that a plan serves to decode
pub read_regular : (s : Coding) (x : Neighbours) (sample : ℕ) → IsReadBy (regular_plan s x) (regular_word_in s x sample)
unfolding regular_plan_by regular_word_in
read_regular s x sample = record { same_k = refl; same_limit = refl }

-- ---- what a plan is used for

abbrev value_by : Parameters → Planned → Stats → ℕ → ℕ
value_by p plan t sample = mapped_error (is_inverted plan.k t.b t.n) (error_of p plan.negative plan.prediction sample)

pub value_same : (p : Parameters) (a n : List ℕ) (b c : List ℤ) (ri_type_0 ri_type_1 : Counts) (index : ℕ) (interrupted : Bool) (x : Neighbours) (plan : Planned)
    → plan ≡ regular_plan (made p (contexts_of a b c n) ri_type_0 ri_type_1 index interrupted) x → (sample : ℕ)
    → mapped_error (is_inverted plan.k (stats_at a b c n plan.number).b (stats_at a b c n plan.number).n) (error_of p plan.negative plan.prediction sample)
    ≡ (regular_word_in (made p (contexts_of a b c n) ri_type_0 ri_type_1 index interrupted) x sample).value
unfolding regular_plan_by regular_word_in regular_error_in
value_same p a n b c ri_type_0 ri_type_1 index interrupted x plan e sample =
    ap (λ (q : Planned). value_by p q (stats_at a b c n q.number) sample) e
    ∙ ap (λ (t : Stats). value_by p (regular_plan (made p (contexts_of a b c n) ri_type_0 ri_type_1 index interrupted) x) t sample) (sym (stats_in_view a n b c (context_of p x).number (context_small p x)))

pub error_same : (s : Coding) (x : Neighbours) (plan : Planned) → plan ≡ regular_plan s x → (sample : ℕ) → error_of s.parameters plan.negative plan.prediction sample ≡ regular_error_in s x sample
unfolding regular_plan_by regular_error_in
error_same s x plan e sample = ap (λ (q : Planned). error_of s.parameters q.negative q.prediction sample) e

pub number_same : (s : Coding) (x : Neighbours) (plan : Planned) → plan ≡ regular_plan s x → plan.number ≡ (context_in s x).number
unfolding regular_plan_by
number_same s x plan e = ap (λ (q : Planned). q.number) e

pub stepped_same : (p : Parameters) (a n : List ℕ) (b c : List ℤ) (ri_type_0 ri_type_1 : Counts) (index : ℕ) (interrupted : Bool) (x : Neighbours) (plan : Planned)
    → plan ≡ regular_plan (made p (contexts_of a b c n) ri_type_0 ri_type_1 index interrupted) x → (sample : ℕ)
    → set (contexts_of a b c n) plan.number (stats_step p.reset (stats_at a b c n plan.number) (error_of p plan.negative plan.prediction sample))
    ≡ (regular_after (made p (contexts_of a b c n) ri_type_0 ri_type_1 index interrupted) (context_of p x).number (regular_error_in (made p (contexts_of a b c n) ri_type_0 ri_type_1 index interrupted) x sample)).contexts
stepped_same p a n b c ri_type_0 ri_type_1 index interrupted x plan e sample =
    let s : Coding = made p (contexts_of a b c n) ri_type_0 ri_type_1 index interrupted in
    ap (λ number. set (contexts_of a b c n) number (stats_step p.reset (stats_at a b c n number) (error_of p plan.negative plan.prediction sample))) (number_same s x plan e)
    ∙ ap (λ (t : Stats). set (contexts_of a b c n) (context_of p x).number (stats_step p.reset t (error_of p plan.negative plan.prediction sample))) (sym (stats_in_view a n b c (context_of p x).number (context_small p x)))
    ∙ ap (λ (z : ℤ). set (contexts_of a b c n) (context_of p x).number (stats_step p.reset (stats_in s (context_of p x).number) z)) (error_same s x plan e sample)

pub prediction_small : (s : Coding) (x : Neighbours) (plan : Planned) (prediction : ℕ) → plan ≡ regular_plan s x → plan.prediction ≡ pos prediction → prediction ≤ s.parameters.maxval
unfolding regular_plan_by
prediction_small s x plan prediction e same =
    let t : Stats = stats_in s (context_in s x).number in
    let z : ℤ = pos (median x) +ℤ signed (context_in s x).negative t.c in
    let small : (clamped (pos 0) (pos s.parameters.maxval) z) ≤ℤ pos s.parameters.maxval =
    choose (int_lt z (pos 0)) (pos 0) (if int_lt (pos s.parameters.maxval) z then pos s.parameters.maxval else z) (λ v. v ≤ℤ pos s.parameters.maxval) (λ f. omega (arith, ints))
    (λ f. choose (int_lt (pos s.parameters.maxval) z) (pos s.parameters.maxval) z (λ v. v ≤ℤ pos s.parameters.maxval) (λ g. omega (arith, ints)) (λ g. lt_false (pos s.parameters.maxval) z g)) in
    let known : pos prediction ≡ clamped (pos 0) (pos s.parameters.maxval) z = sym same ∙ ap (λ (q : Planned). q.prediction) e in
    let bounded : pos prediction ≤ℤ pos s.parameters.maxval = subst (λ v. v ≤ℤ pos s.parameters.maxval) (sym known) small in
    omega (arith, ints)

-- ---- answers

pub ok_map : {A E : Type 0} (r : Result A E) (P Q : A → Type 0) → ((x : A) → P x → Q x) → IfOk r P → IfOk r Q
ok_map (Ok x) P Q f h = f x h
ok_map (Err e) P Q f h = h

pub err_map : {A E : Type 0} (r : Result A E) (P Q : E → Type 0) → ((x : E) → P x → Q x) → IfErr r P → IfErr r Q
err_map (Ok x) P Q f h = h
err_map (Err e) P Q f h = f e h

pub sample_by : (P : ℕ → Type 0) (f g : ℕ → ℕ) (value sample : ℕ) → ((one : ℕ) → f one ≡ g one) → IsTheSample P f value sample → IsTheSample P g value sample
sample_by P f g value sample same h = record {
  is_sample = h.is_sample;
  has_value = sym (same sample) ∙ h.has_value;
  only = λ other may e. h.only other may (same other ∙ e);
}

pub no_sample_by : (P : ℕ → Type 0) (f g : ℕ → ℕ) (value : ℕ) → ((one : ℕ) → f one ≡ g one) → NoSample P f value → NoSample P g value
no_sample_by P f g value same h sample may e = h sample may (same sample ∙ e)

pub err_always : {A E : Type 0} (r : Result A E) (Q : Type 0) → Q → IfErr r (λ fault. Q)
err_always (Ok x) Q h = tt
err_always (Err e) Q h = h
