-- The sample that interrupts a run, in a state's model.
use Rattle.std.proofs.Common.{◌≡◌, ℕ, Bool, true, false, List, refl, sym, ◌∙◌, ap}
use Rattle.ls_frame.specs.Parameters.{Parameters}
use Rattle.ls_coding.specs.declared.neighbours.Neighbours.{Neighbours}
use Rattle.ls_coding.specs.declared.word.Word.{Word}
use Rattle.ls_coding.specs.Stats.{Stats}
use Rattle.ls_coding.specs.Interruptions.{Counts, ri_type_of, ri_value, interruption_k, interruption_value, interruption_error}
use Rattle.ls_coding.specs.Events.{interruption_word}
use Rattle.ls_coding.specs.View.States.{Coding, counts_in, interruption_word_in}
use Rattle.ls_coding.specs.View.Fields.{counts_at}
use Rattle.ls_coding.specs.View.Plans.{Planned, interruption_plan_by, interruption_plan, IsReadBy}
use Rattle.ls_coding.proofs.StateLemmas.{made}

abbrev pub view : Parameters → List Stats → List ℕ → List ℕ → List ℕ → ℕ → Bool → Coding
view p contexts a n nn index interrupted = made p contexts (counts_at a n nn 0) (counts_at a n nn 1) index interrupted

counts_in_view : (p : Parameters) (contexts : List Stats) (a n nn : List ℕ) (index : ℕ) (interrupted : Bool) (ri_type : Bool)
    → counts_in (view p contexts a n nn index interrupted) ri_type ≡ counts_at a n nn (ri_value ri_type)
counts_in_view p contexts a n nn index interrupted true = refl
counts_in_view p contexts a n nn index interrupted false = refl

pub word_in_view : (p : Parameters) (contexts : List Stats) (a n nn : List ℕ) (index : ℕ) (interrupted : Bool) (x : Neighbours) (sample : ℕ)
    → interruption_word p index (ri_type_of x) (counts_at a n nn (ri_value (ri_type_of x))) (interruption_error p x sample)
    ≡ interruption_word_in (view p contexts a n nn index interrupted) x sample
unfolding interruption_word_in
word_in_view p contexts a n nn index interrupted x sample =
    ap (λ (t : Counts). interruption_word p index (ri_type_of x) t (interruption_error p x sample)) (sym (counts_in_view p contexts a n nn index interrupted (ri_type_of x)))

pub value_in_view : (p : Parameters) (contexts : List Stats) (a n nn : List ℕ) (index : ℕ) (interrupted : Bool) (x : Neighbours) (sample : ℕ)
    → interruption_value (ri_type_of x) (counts_at a n nn (ri_value (ri_type_of x))) (interruption_error p x sample)
    ≡ (interruption_word_in (view p contexts a n nn index interrupted) x sample).value
value_in_view p contexts a n nn index interrupted x sample = ap (λ (w : Word). w.value) (word_in_view p contexts a n nn index interrupted x sample)

pub neighbours_of_interruption : (s : Coding) (x : Neighbours) → (interruption_plan s x).neighbours ≡ x
unfolding interruption_plan_by
neighbours_of_interruption s x = refl

-- the words that a plan serves to decode
pub read_interruption : (s : Coding) (x : Neighbours) (sample : ℕ) → IsReadBy (interruption_plan s x) (interruption_word_in s x sample)
unfolding interruption_plan_by interruption_word_in
read_interruption s x sample = record { same_k = refl; same_limit = refl }

pub k_same : (p : Parameters) (contexts : List Stats) (a n nn : List ℕ) (index : ℕ) (interrupted : Bool) (x : Neighbours) (plan : Planned)
    → plan ≡ interruption_plan (view p contexts a n nn index interrupted) x → plan.k ≡ interruption_k (ri_type_of x) (counts_at a n nn (ri_value (ri_type_of x)))
unfolding interruption_plan_by
k_same p contexts a n nn index interrupted x plan e = ap (λ (q : Planned). q.k) e ∙ ap (interruption_k (ri_type_of x)) (counts_in_view p contexts a n nn index interrupted (ri_type_of x))
