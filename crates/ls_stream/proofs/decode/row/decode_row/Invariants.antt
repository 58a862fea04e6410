use Rattle.std.proofs.Common.{◌≡◌, ◌-◌, ◌≤◌}
use Rattle.ls_stream.specs.View.Decoding.{place, ReadsOn}
use Rattle.ls_stream.proofs.decode.row.decode_row.Given as goal

abbrev pub invariant-columns : goal.invariant-columns
invariant-columns l = record {
  inside : l.column ≤ l.width;
  some : 1 ≤ l.size;
  few : l.size ≤ 64;
  on : ReadsOn l.width l.above (place 0 l.fn.line l.fn.decoder.state l.fn.decoder.bits) (place l.column l.line l.decoder.state l.decoder.bits);
  parameters : l.decoder.state.parameters ≡ l.fn.decoder.state.parameters;
}

abbrev pub decreases-columns : goal.decreases-columns
decreases-columns l = l.width - l.column
