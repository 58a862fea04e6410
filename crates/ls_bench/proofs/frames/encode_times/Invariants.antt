use Rattle.std.proofs.Common.{◌≡◌}
use Rattle.ls_bench.proofs.frames.encode_times.Given as goal

abbrev pub invariant-loop : goal.invariant-loop
invariant-loop l = l.lines ≡ l.fn.lines
