use Rattle.std.proofs.Common.{◌≡◌, ◌≢◌, ◌+◌, ◌*◌, ◌<◌, ℕ, length, get_or}
use Rattle.ls_stream.proofs.decode.scan.store_row.Given as goal

abbrev pub invariant-loop-column : goal.invariant-loop-column
invariant-loop-column g l = record {
  whole : length (g.S.Sample.numbers l.samples) ≡ length (g.S.Sample.numbers l.fn.samples);
  stored : (j : ℕ) → j < l.column → get_or (g.S.Sample.numbers l.samples) ((l.row * l.shape.width + j) * l.shape.components + l.component) 0 ≡ get_or l.line (j + 1) 0;
  kept : (k : ℕ) → ((j : ℕ) → j < l.shape.width → k ≢ (l.row * l.shape.width + j) * l.shape.components + l.component) → get_or (g.S.Sample.numbers l.samples) k 0 ≡ get_or (g.S.Sample.numbers l.fn.samples) k 0;
}
