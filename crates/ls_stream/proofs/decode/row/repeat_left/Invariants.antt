use Rattle.std.proofs.Common.{◌≡◌, ◌⊎◌, ◌+◌, ◌-◌, ◌<◌, ◌≤◌, ℕ, length, get_or}
use Rattle.ls_stream.proofs.decode.row.repeat_left.Given as goal

abbrev pub invariant-loop-place : goal.invariant-loop-place
invariant-loop-place l = record {
  whole : length l.line ≡ length l.fn.line;
  low : l.column + 1 ≤ l.place;
  high : l.place ≤ l.end + 1;
  inside : (c : ℕ) → l.column ≤ c → c + 1 < l.place → get_or l.line (c + 1) 0 ≡ l.value;
  before : (k : ℕ) → k ≤ l.column → get_or l.line k 0 ≡ get_or l.fn.line k 0;
  others : (k : ℕ) → (get_or l.line k 0 ≡ get_or l.fn.line k 0) ⊎ (get_or l.line k 0 ≡ l.value);
}

abbrev pub invariant-sixteens : goal.invariant-sixteens
invariant-sixteens l = record {
  whole : length l.line ≡ length l.fn.line;
  low : l.column + 1 ≤ l.place;
  inside : (c : ℕ) → l.column ≤ c → c + 1 < l.place → get_or l.line (c + 1) 0 ≡ l.value;
  before : (k : ℕ) → k ≤ l.column → get_or l.line k 0 ≡ get_or l.fn.line k 0;
  others : (k : ℕ) → (get_or l.line k 0 ≡ get_or l.fn.line k 0) ⊎ (get_or l.line k 0 ≡ l.value);
}

abbrev pub decreases-sixteens : goal.decreases-sixteens
decreases-sixteens l = l.end + 16 - l.place
