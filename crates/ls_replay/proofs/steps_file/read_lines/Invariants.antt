use Rattle.std.proofs.Common.{◌≡◌, ◌+◌, ◌≤◌, length}
use Rattle.ls_replay.specs.View.StepsReading.{steps_of, steps_from, with_front, lines_after, left_in}
use Rattle.ls_replay.proofs.steps_file.read_lines.Given as goal

-- the steps so far, followed by those of the remaining lines, are all the steps
abbrev pub invariant-loop-rest : goal.invariant-loop-rest
invariant-loop-rest l = record {
  steps : steps_of l.text ≡ with_front l.steps.items (steps_from (l.number + 1) (lines_after l.rest));
  few : l.number + left_in l.rest ≤ length l.text + 1;
}

abbrev pub decreases-loop-rest : goal.decreases-loop-rest
decreases-loop-rest l = left_in l.rest
