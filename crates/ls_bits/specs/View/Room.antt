-- The model of a `RoomSink`.
use Rattle.std.specs.Prelude.{ℕ, ◌+◌, ◌/◌, ◌≤◌, Bool, List}

pub record Filled (R : Type 0) : Type 0 where
  -- the room with the bytes put so far
  pub room : R
  -- the bytes in the room when the sink was made
  pub front : List ℕ
  -- the number of free bytes that the room then had
  pub capacity_left : ℕ
  -- the bits put since
  pub bits : List Bool

-- count bits fit into capacity_left bytes, wherever zeros are stuffed
abbrev pub Fits : ℕ → ℕ → Type 0
Fits count capacity_left = count / 7 + 1 ≤ capacity_left
