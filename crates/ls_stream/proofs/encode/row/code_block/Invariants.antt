use Rattle.std.proofs.Common.{◌≡◌, ◌+◌, ◌-◌, ◌*◌, ◌≤◌, ◌++◌, ℕ, false, List, length}
use Rattle.ls_frame.specs.Parameters.{limit_of}
use Rattle.ls_stream.specs.Planes.{Plane, Span, row_from}
use Rattle.ls_stream.specs.View.Coded.{all_from}
use Rattle.ls_stream.specs.View.LineBuffers.{AreLines}
use Rattle.ls_stream.proofs.encode.row.code_block.Given as goal

abbrev pub invariant-spans : goal.invariant-spans
invariant-spans g l = record {
  row : (plane : Plane) (i : ℕ) → plane.width ≡ l.width → AreLines plane i l.above l.line → (more : List Span)
      → all_from plane l.coder.bits l.coder.state (row_from plane i l.column ++ more) ≡ all_from plane l.fn.coder.bits l.fn.coder.state (row_from plane i l.start ++ more);
  cost : length l.coder.bits + limit_of l.fn.coder.state.parameters.maxval * (l.width - l.column) ≤ length l.fn.coder.bits + limit_of l.fn.coder.state.parameters.maxval * (l.width - l.start);
  next : l.start ≤ l.column;
  uninterrupted : l.coder.state.interrupted ≡ false;
  parameters : l.coder.state.parameters ≡ l.fn.coder.state.parameters;
  front : l.coder.front ≡ l.fn.coder.front;
  room : l.coder.capacity_left ≡ l.fn.coder.capacity_left;
  grown : g.R.Room.Grown l.fn.coder.room l.coder.room;
}

abbrev pub decreases-spans : goal.decreases-spans
decreases-spans g l = l.end - l.column
