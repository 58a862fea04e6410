use Rattle.std.proofs.Common.{◌≤◌, All}
use Rattle.ls_bench.proofs.frames.encode_all.Given as goal

abbrev pub invariant-loop-frame : goal.invariant-loop-frame
invariant-loop-frame g l = All (λ f. f.width ≤ l.lines) l.frames
