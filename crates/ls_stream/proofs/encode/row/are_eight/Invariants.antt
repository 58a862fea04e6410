use Rattle.std.proofs.Common.{◌≡◌, ◌+◌, ◌<◌, ℕ, true, get_or}
use Rattle.ls_stream.proofs.encode.row.are_eight.Given as goal

abbrev pub invariant-loop-k : goal.invariant-loop-k
invariant-loop-k l = l.same ≡ true → (j : ℕ) → j < l.k → get_or l.line (l.place + j) 0 ≡ l.value
