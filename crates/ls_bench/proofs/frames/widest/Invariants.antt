use Rattle.std.proofs.Common.{◌≤◌}
use Rattle.std.specs.List.{AllWithin}
use Rattle.ls_bench.proofs.frames.widest.Given as goal

abbrev pub invariant-loop-frame : goal.invariant-loop-frame
invariant-loop-frame l = AllWithin (λ f. f.width ≤ l.widest) l.frames 0 l.frame-index
