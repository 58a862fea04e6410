-- The lists of events that a scan may have.
use Rattle.std.specs.Prelude.{◌≡◌, ℕ, ◌<◌, ◌≤◌, Bool, true, false, List, [], ◌∷◌, ◌++◌}
use Rattle.ls_frame.specs.Parameters.{Parameters}
use Rattle.ls_coding.specs.declared.neighbours.Neighbours.{Neighbours}
use Rattle.ls_coding.specs.Samples.{AreSamples, Interrupts}
use Rattle.ls_coding.specs.Contexts.{is_run, context_of}
use Rattle.ls_coding.specs.Interruptions.{ri_type_of, interruption_error}
use Rattle.ls_coding.specs.Runs.{run_of}
use Rattle.ls_coding.specs.Events.{Event, regular, run, interruption, stats_after_events, interrupted_after_events, regular_error_of}

-- an event that may follow these: a sample of regular mode or a run; or, if the last one is an interrupted run, a sample other than Ra
pub data MayComeNext (p : Parameters) (events : List Event) (event : Event) : Type 0 where
  by_sample : (neighbours : Neighbours) (sample : ℕ) → AreSamples p.maxval neighbours → sample ≤ p.maxval → is_run neighbours ≡ false → interrupted_after_events events ≡ false
      → event ≡ regular (context_of p neighbours).number (regular_error_of p (context_of p neighbours) (stats_after_events p (context_of p neighbours).number events) neighbours sample)
      → MayComeNext p events event
  by_run : (count : ℕ) (interrupted : Bool) → (interrupted ≡ false → 0 < count) → interrupted_after_events events ≡ false
      → event ≡ run (run_of count interrupted) → MayComeNext p events event
  by_interruption : (neighbours : Neighbours) (sample : ℕ) → AreSamples p.maxval neighbours → Interrupts p.maxval neighbours.a sample → interrupted_after_events events ≡ true
      → event ≡ interruption (ri_type_of neighbours) (interruption_error p neighbours sample) → MayComeNext p events event

-- a list of events, each of which may follow those before it
pub data IsLawful (p : Parameters) : List Event → Type 0 where
  none : IsLawful p []
  more : (events : List Event) (event : Event) → IsLawful p events → MayComeNext p events event → IsLawful p (events ++ event ∷ [])
