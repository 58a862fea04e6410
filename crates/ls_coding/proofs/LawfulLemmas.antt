-- Lawful lists of events are reached.
use Rattle.std.proofs.Common.{◌≡◌, ℕ, false, List, [], ◌∷◌, ◌++◌, refl, sym, ◌∙◌, ap}
use Rattle.ls_frame.specs.Parameters.{Parameters}
use Rattle.ls_coding.specs.declared.neighbours.Neighbours.{Neighbours}
use Rattle.ls_coding.specs.Contexts.{context_of}
use Rattle.ls_coding.specs.Interruptions.{ri_type_of, interruption_error}
use Rattle.ls_coding.specs.Runs.{run_of}
use Rattle.ls_coding.specs.Events.{Event, regular, stats_after_events, regular_error_of}
use Rattle.ls_coding.specs.View.States.{state_of, context_in, regular_error_in, regular_after}
use Rattle.ls_coding.specs.Lawful.{MayComeNext, by_sample, by_run, by_interruption, IsLawful, none, more}
use Rattle.ls_coding.specs.View.Reached.{IsCall, code_regular, code_run, code_interruption, IsReached, start, called}
use Rattle.ls_coding.proofs.EventLemmas.{state_after_regular, state_of-interruption}
use Rattle.ls_coding.proofs.StateLemmas.{state_of-run}

regular_reached : (p : Parameters) (events : List Event) (n : Neighbours) (sample : ℕ) → (state_of p events).interrupted ≡ false
    → state_of p (events ++ regular (context_of p n).number (regular_error_of p (context_of p n) (stats_after_events p (context_of p n).number events) n sample) ∷ [])
    ≡ regular_after (state_of p events) (context_in (state_of p events) n).number (regular_error_in (state_of p events) n sample)
unfolding state_of
regular_reached p events n sample uninterrupted = sym (state_after_regular (state_of p events) _ n sample uninterrupted refl events refl)

one_more : (p : Parameters) (events : List Event) (event : Event) → MayComeNext p events event → IsCall (state_of p events) (state_of p (events ++ event ∷ []))
unfolding state_of
one_more p events event (by_sample n sample samples within mode uninterrupted e) =
    code_regular n sample (record { samples = samples; within = within; regular = mode; uninterrupted = uninterrupted }) (ap (λ (v : Event). state_of p (events ++ v ∷ [])) e ∙ regular_reached p events n sample uninterrupted)
one_more p events event (by_run count interrupted some uninterrupted e) =
    code_run (run_of count interrupted) (record { uninterrupted = uninterrupted; some = some }) (ap (λ (v : Event). state_of p (events ++ v ∷ [])) e ∙ sym (state_of-run p events (run_of count interrupted)))
one_more p events event (by_interruption n sample samples other interrupted e) =
    code_interruption n sample (record { samples = samples; interrupts = other; interrupted = interrupted }) (ap (λ (v : Event). state_of p (events ++ v ∷ [])) e ∙ sym (state_of-interruption p events (ri_type_of n) (interruption_error p n sample)))

pub reached : (p : Parameters) (events : List Event) → IsLawful p events → IsReached p (state_of p events)
reached p _ none = start
reached p _ (more events event lawful follows) = called (state_of p events) (state_of p (events ++ event ∷ [])) (reached p events lawful) (one_more p events event follows)
