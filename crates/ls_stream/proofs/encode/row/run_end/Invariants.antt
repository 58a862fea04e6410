use Rattle.std.proofs.Common.{◌≡◌, ◌+◌, ◌-◌, ◌<◌, ◌≤◌, ℕ, get_or}
use Rattle.ls_stream.proofs.encode.row.run_end.Given as goal

abbrev pub invariant-blocks-2 : goal.invariant-blocks-2
invariant-blocks-2 l =
    (l.column ≤ l.end) × (l.end ≤ l.width) × ((k : ℕ) → l.column ≤ k → k < l.end → get_or l.line (k + 1) 0 ≡ get_or l.line l.column 0)

abbrev pub decreases-blocks-2 : goal.decreases-blocks-2
decreases-blocks-2 l = l.width - l.end

abbrev pub invariant-samples : goal.invariant-samples
invariant-samples l =
    (l.column ≤ l.end) × (l.end ≤ l.width) × ((k : ℕ) → l.column ≤ k → k < l.end → get_or l.line (k + 1) 0 ≡ get_or l.line l.column 0)

abbrev pub decreases-samples : goal.decreases-samples
decreases-samples l = l.width - l.end
