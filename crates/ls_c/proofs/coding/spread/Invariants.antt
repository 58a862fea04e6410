use Rattle.std.proofs.Common.{◌≡◌, ◌≢◌, ◌+◌, ◌*◌, ◌<◌, ℕ, length, get_or}
use Rattle.ls_c.proofs.coding.spread.Given as goal

abbrev pub invariant-loop-number : goal.invariant-loop-number
invariant-loop-number g l = record {
  whole : length (g.S.Sample.numbers l.samples) ≡ length (g.S.Sample.numbers l.fn.samples);
  stored : (i j : ℕ) → i < l.number → j < l.rows.row → get_or (g.S.Sample.numbers l.samples) (i * l.rows.stride + j) 0 ≡ get_or l.apart (i * l.rows.row + j) 0;
  kept : (k : ℕ) → ((i j : ℕ) → i < l.rows.height → j < l.rows.row → k ≢ i * l.rows.stride + j) → get_or (g.S.Sample.numbers l.samples) k 0 ≡ get_or (g.S.Sample.numbers l.fn.samples) k 0;
}
