use Rattle.std.proofs.Common.{◌≡◌, ◌<◌, ℕ, get_or}
use Rattle.ls_coding.specs.View.SureZeros.{sure_zeros}
use Rattle.ls_coding.proofs.sure_zeros.fill.Given as goal

abbrev pub invariant-loop-k : goal.invariant-loop-k
invariant-loop-k l = (j : ℕ) → j < l.k → get_or l.zeros j 0 ≡ sure_zeros l.presets j
