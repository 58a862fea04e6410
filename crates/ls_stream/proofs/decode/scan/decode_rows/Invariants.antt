use Rattle.std.proofs.Common.{◌≡◌, ◌≢◌, ◌↔◌, ◌+◌, ◌-◌, ◌*◌, ◌<◌, ◌≤◌, ℕ, false, Bool, List, length, get_or}
use Rattle.ls_bits.specs.declared.source.CodeFault.{CodeFault}
use Rattle.ls_stream.specs.View.BitFaults.{BreaksSpans}
use Rattle.ls_stream.specs.Planes.{Plane, rows_from, IsSamplePlane}
use Rattle.ls_stream.specs.View.LineBuffers.{HoldsLine}
use Rattle.ls_stream.specs.View.Decoding.{HoldsRows, RowsMayBeRead}
use Rattle.ls_stream.proofs.decode.scan.decode_rows.Given as goal

abbrev pub invariant-loop-row : goal.invariant-loop-row
invariant-loop-row g l = record {
  same : (plane : Plane) → IsSamplePlane l.fn.decoder.state.parameters.maxval l.shape.width l.shape.height plane → (rest : List Bool)
      → RowsMayBeRead plane l.shape.height 0 l.shape.components l.component (g.S.Sample.numbers l.fn.samples) l.fn.decoder.state l.fn.decoder.bits rest
      ↔ RowsMayBeRead plane l.shape.height l.row l.shape.components l.component (g.S.Sample.numbers l.samples) l.decoder.state l.decoder.bits rest;
  held : (plane : Plane) → IsSamplePlane l.fn.decoder.state.parameters.maxval l.shape.width l.shape.height plane → HoldsRows plane l.row l.shape.components l.component (g.S.Sample.numbers l.samples)
      → HoldsLine plane l.row l.above;
  breaks : (plane : Plane) → IsSamplePlane l.fn.decoder.state.parameters.maxval l.shape.width l.shape.height plane → HoldsRows plane l.row l.shape.components l.component (g.S.Sample.numbers l.samples)
      → (fault : CodeFault) → BreaksSpans plane (rows_from plane (l.shape.height - l.row) l.row) l.decoder.state l.decoder.bits fault
      → BreaksSpans plane (rows_from plane (l.shape.height - 0) 0) l.fn.decoder.state l.fn.decoder.bits fault;
  others : (k other : ℕ) → other < l.shape.components → other ≢ l.component → get_or (g.S.Sample.numbers l.samples) (k * l.shape.components + other) 0 ≡ get_or (g.S.Sample.numbers l.fn.samples) (k * l.shape.components + other) 0;
  small : (k : ℕ) → get_or (g.S.Sample.numbers l.samples) k 0 ≤ l.fn.decoder.state.parameters.maxval;
  above_small : (k : ℕ) → get_or l.above k 0 ≤ l.fn.decoder.state.parameters.maxval;
  line_small : (k : ℕ) → get_or l.line k 0 ≤ l.fn.decoder.state.parameters.maxval;
  above_length : length l.above ≡ l.shape.width + 2;
  line_length : length l.line ≡ l.shape.width + 2;
  len : length (g.S.Sample.numbers l.samples) ≡ length (g.S.Sample.numbers l.fn.samples);
  uninterrupted : l.decoder.state.interrupted ≡ false;
  parameters : l.decoder.state.parameters ≡ l.fn.decoder.state.parameters;
}
