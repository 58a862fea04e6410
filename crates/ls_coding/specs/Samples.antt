-- The samples around one that is coded (T.87 Figure A.1), and those that may interrupt a run.
use Rattle.std.specs.Prelude.{ℕ, ◌≤◌, ◌≢◌}
use Rattle.ls_coding.specs.declared.neighbours.Neighbours.{Neighbours}

-- each is at most MAXVAL
pub record AreSamples (maxval : ℕ) (neighbours : Neighbours) : Type 0 where
  pub left : neighbours.a ≤ maxval
  pub above : neighbours.b ≤ maxval
  pub above_left : neighbours.c ≤ maxval
  pub above_right : neighbours.d ≤ maxval

-- a sample that may interrupt a run of the value to its left
pub record Interrupts (maxval left sample : ℕ) : Type 0 where
  pub within : sample ≤ maxval
  pub other : sample ≢ left
