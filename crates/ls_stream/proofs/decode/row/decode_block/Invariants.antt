use Rattle.std.proofs.Common.{◌≡◌, ◌-◌, ◌≤◌}
use Rattle.std.specs.Prelude.{slice_index}
use Rattle.ls_bits.specs.View.Plain.{bits_at, IsAt}
use Rattle.ls_stream.specs.View.Decoding.{place, ReadsOn}
use Rattle.ls_stream.proofs.decode.row.decode_block.Given as goal

abbrev pub invariant-spans : goal.invariant-spans
invariant-spans l = record {
  low : l.start ≤ l.reached.column;
  high : l.reached.column ≤ l.width;
  on : ReadsOn l.width l.above (place l.start l.fn.line l.fn.decoder.state l.fn.decoder.bits) (place l.reached.column l.line l.decoder.state (bits_at l.decoder.source l.reached.bits));
  bits : IsAt l.decoder.source l.reached.bits;
  left : l.reached.left ≡ slice_index l.line l.reached.column;
  parameters : l.decoder.state.parameters ≡ l.fn.decoder.state.parameters;
}

abbrev pub decreases-spans : goal.decreases-spans
decreases-spans l = l.width - l.reached.column
