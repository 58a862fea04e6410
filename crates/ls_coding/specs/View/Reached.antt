-- The states that calls reach from a scan's start.
use Rattle.std.specs.Prelude.{◌≡◌, ℕ, []}
use Rattle.ls_frame.specs.Parameters.{Parameters}
use Rattle.ls_coding.specs.declared.neighbours.Neighbours.{Neighbours}
use Rattle.ls_coding.specs.Interruptions.{ri_type_of, interruption_error}
use Rattle.ls_coding.specs.Runs.{Run}
use Rattle.ls_coding.specs.View.States.{Coding, state_of, context_in, regular_error_in, regular_after, run_after, interruption_after}
use Rattle.ls_coding.specs.View.Calls.{MayCodeRegular, MayCodeRun, MayCodeInterruption}

-- one coding call: it may be made, and leaves this state
pub data IsCall (before after : Coding) : Type 0 where
  code_regular : (neighbours : Neighbours) (sample : ℕ) → MayCodeRegular before neighbours sample
      → after ≡ regular_after before (context_in before neighbours).number (regular_error_in before neighbours sample) → IsCall before after
  code_run : (run : Run) → MayCodeRun before run → after ≡ run_after before run → IsCall before after
  code_interruption : (neighbours : Neighbours) (sample : ℕ) → MayCodeInterruption before neighbours sample
      → after ≡ interruption_after before (ri_type_of neighbours) (interruption_error before.parameters neighbours sample) → IsCall before after

-- a state that calls reach
pub data IsReached (p : Parameters) : Coding → Type 0 where
  start : IsReached p (state_of p [])
  called : (before after : Coding) → IsReached p before → IsCall before after → IsReached p after
