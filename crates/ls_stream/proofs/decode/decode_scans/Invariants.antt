use Rattle.std.proofs.Common.{◌≡◌, ℕ, ◌≤◌, length, drop, get_or}
use Rattle.ls_frame.specs.Picture.{components}
use Rattle.ls_stream.specs.Components.{arranged}
use Rattle.ls_stream.specs.View.Outlines.{ids_in}
use Rattle.ls_stream.proofs.FrameReadingLemmas.{IsReadTo}
use Rattle.ls_stream.proofs.decode.decode_scans.Given as goal

abbrev pub invariant-loop-component : goal.invariant-loop-component
invariant-loop-component g l = record {
  lines : l.lines ≡ l.fn.lines;
  len : length (g.S.Sample.numbers l.samples) ≡ length (g.S.Sample.numbers l.fn.samples);
  small : (k : ℕ) → get_or (g.S.Sample.numbers l.samples) k 0 ≤ l.presets.maxval;
  read : IsReadTo l.presets l.header.width l.header.height (components l.header.kind) (drop 1 (ids_in l.header)) l.fn.bytes l.rest l.component (arranged l.arrangement (components l.header.kind) (g.S.Sample.numbers l.samples));
}
