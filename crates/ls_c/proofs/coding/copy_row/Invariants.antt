use Rattle.std.proofs.Common.{◌≡◌, ◌≢◌, ◌+◌, ◌<◌, ℕ, length, get_or}
use Rattle.ls_c.proofs.coding.copy_row.Given as goal

abbrev pub invariant-loop-column : goal.invariant-loop-column
invariant-loop-column g l = record {
  whole : length (g.S.Sample.numbers l.samples) ≡ length (g.S.Sample.numbers l.fn.samples);
  stored : (j : ℕ) → j < l.column → get_or (g.S.Sample.numbers l.samples) (l.start + j) 0 ≡ get_or l.row j 0;
  kept : (k : ℕ) → ((j : ℕ) → j < length l.row → k ≢ l.start + j) → get_or (g.S.Sample.numbers l.samples) k 0 ≡ get_or (g.S.Sample.numbers l.fn.samples) k 0;
}
