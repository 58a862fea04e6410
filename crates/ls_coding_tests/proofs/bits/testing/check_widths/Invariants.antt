use Rattle.std.proofs.Common.{ℕ, ◌<◌, ◌≤◌, get_or}
use Rattle.ls_coding_tests.proofs.bits.testing.check_widths.Given as goal

abbrev pub invariant-loop-width : goal.invariant-loop-width
invariant-loop-width g l = (k : ℕ) → k < l.width-index → get_or l.widths k 0 ≤ 15
