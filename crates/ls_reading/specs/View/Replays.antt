-- Replaying the steps of a file: the replies that are written, and the status for each fault.
use Rattle.std.specs.Prelude.{◌≡◌, ◌⊎◌, ℕ, List, Option, Some, None}
use Rattle.std.specs.Io.KnownBytes.{Appends}
use Rattle.ls_queue.specs.declared.faults.QueueFault.TheVariants as queue
use Rattle.ls_queue.specs.declared.steps.Step.{Step}
use Rattle.ls_queue.specs.declared.steps.Reply.{Reply}
use Rattle.ls_queue.specs.Faults.{replay_fault}
use Rattle.ls_queue.specs.History.{IsReplay}
use Rattle.ls_replay.specs.StepsFile.{IsStepsFile, IsFaultOf}
use Rattle.ls_replay.specs.ReplyLines.{reply_lines}
use Rattle.ls_replay.specs.View.Texts.{GaveText}
use Rattle.ls_console.specs.declared.output.TheConstants.{FAILED, USAGE}
use Rattle.ls_reading.specs.declared.replaying.ReplayFault.{ReplayFault}
use Rattle.ls_reading.specs.declared.replaying.ReplayFault.TheVariants.{Steps, Queue}

module _ (sources capacity : ℕ) where
  -- the replies of a queue to the steps of a text
  abbrev pub IsReplayOf : List ℕ → List Reply → Type 0
  IsReplayOf text replies = (steps : List Step) × IsStepsFile text steps × IsReplay sources capacity steps replies

  -- Why there are no replies to a text: it has no steps; or it has, and a queue can't replay them, or memory ran out.
  abbrev pub IsReplayFault : List ℕ → ReplayFault → Type 0
  IsReplayFault text (Steps fault) = IsFaultOf text fault
  IsReplayFault text (Queue fault) = (steps : List Step) × IsStepsFile text steps
      × ((replay_fault sources capacity steps ≡ Some fault) ⊎ ((replay_fault sources capacity steps ≡ None) × (fault ≡ queue.NoMemory)))

module _ {O : Type 0} (holds : O → List ℕ → Option (List ℕ) → Type 0) (opener : O) (path : List ℕ) where
  -- What the file at the path holds is this text, as far as it is known.
  pub record HoldsText (text : List ℕ) : Type 0 where
    pub read : Option (List ℕ)
    pub left : Option (List ℕ)
    pub file : holds opener path read
    pub gave : GaveText read left text

  -- The file at the path has steps, but no queue has so many sources or places.
  pub record IsBeyondQueues (sources capacity : ℕ) : Type 0 where
    pub text : List ℕ
    pub steps : List Step
    pub file : HoldsText text
    pub are : IsStepsFile text steps
    pub beyond : (replay_fault sources capacity steps ≡ Some queue.Sources) ⊎ (replay_fault sources capacity steps ≡ Some queue.Capacity)

  -- The file at the path has steps, and the lines of a queue's replies to them were written and nothing else.
  pub record WritesReplay (sources capacity : ℕ) (written written' : Option (List ℕ)) : Type 0 where
    pub text : List ℕ
    pub replies : List Reply
    pub file : HoldsText text
    pub are : IsReplayOf sources capacity text replies
    pub wrote : Appends written written' (reply_lines replies)

-- the status that the program exits with
abbrev pub replay_status : ReplayFault → ℕ
replay_status (Steps fault) = FAILED
replay_status (Queue queue.Sources) = USAGE
replay_status (Queue queue.Capacity) = USAGE
replay_status (Queue queue.Workers) = FAILED
replay_status (Queue queue.NoMemory) = FAILED
replay_status (Queue (queue.NoSource number)) = FAILED
