use Rattle.std.proofs.Common.{◌≡◌, ◌+◌, ◌*◌, ◌<◌, ℕ, length, get_or}
use Rattle.ls_stream.proofs.lines.copy_words.Given as goal

abbrev pub invariant-loop-column : goal.invariant-loop-column
invariant-loop-column l = record {
  whole : length l.line ≡ l.width + 2;
  samples : (k : ℕ) → k < l.column → get_or l.line (k + 1) 0 ≡ get_or l.row (k * l.count + l.component) 0;
}
