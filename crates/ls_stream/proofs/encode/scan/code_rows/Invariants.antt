use Rattle.std.proofs.Common.{◌≡◌, ◌+◌, ◌-◌, ◌*◌, ◌<◌, ◌≤◌, ◌++◌, ℕ, false, List, length, get_or}
use Rattle.ls_frame.specs.View.Numbers.{numbers}
use Rattle.ls_frame.specs.Parameters.{limit_of}
use Rattle.ls_stream.specs.Planes.{Span, rows_from}
use Rattle.ls_stream.specs.View.Coded.{all_from}
use Rattle.ls_stream.specs.Components.{component_plane}
use Rattle.ls_stream.specs.View.LineBuffers.{HoldsLine}
use Rattle.ls_stream.proofs.encode.scan.code_rows.Given as goal

abbrev pub invariant-loop-row : goal.invariant-loop-row
invariant-loop-row g l = record {
  rows : (more : List Span) → all_from (component_plane l.shape.width l.shape.components l.component (numbers l.samples)) l.coder.bits l.coder.state (rows_from (component_plane l.shape.width l.shape.components l.component (numbers l.samples)) (l.shape.height - l.row) l.row ++ more)
      ≡ all_from (component_plane l.shape.width l.shape.components l.component (numbers l.samples)) l.fn.coder.bits l.fn.coder.state (rows_from (component_plane l.shape.width l.shape.components l.component (numbers l.samples)) l.shape.height 0 ++ more);
  held : HoldsLine (component_plane l.shape.width l.shape.components l.component (numbers l.samples)) l.row l.above;
  seen : (k : ℕ) → k < l.row * l.shape.width → get_or (component_plane l.shape.width l.shape.components l.component (numbers l.samples)).samples k 0 ≤ l.fn.coder.state.parameters.maxval;
  small : (k : ℕ) → get_or l.above k 0 ≤ l.fn.coder.state.parameters.maxval;
  above_length : length l.above ≡ l.shape.width + 2;
  line_length : length l.line ≡ l.shape.width + 2;
  cost : length l.coder.bits + limit_of l.fn.coder.state.parameters.maxval * (l.shape.width * (l.shape.height - l.row)) ≤ length l.fn.coder.bits + limit_of l.fn.coder.state.parameters.maxval * (l.shape.width * l.shape.height);
  uninterrupted : l.coder.state.interrupted ≡ false;
  parameters : l.coder.state.parameters ≡ l.fn.coder.state.parameters;
  front : l.coder.front ≡ l.fn.coder.front;
  room : l.coder.capacity_left ≡ l.fn.coder.capacity_left;
  grown : g.R.Room.Grown l.fn.coder.room l.coder.room;
}
