use Rattle.std.proofs.Common.{ℕ, List, length}
use Rattle.ls_inspect.specs.Scans.{IsAfterHeader}
use Rattle.ls_inspect.proofs.strict.after_header.Given as goal

-- what follows the next header in all bytes follows it in those that are left
abbrev pub invariant-loop-part : goal.invariant-loop-part
invariant-loop-part l = (after : List ℕ) → IsAfterHeader after l.fn.bytes → IsAfterHeader after l.rest

abbrev pub decreases-loop-part : goal.decreases-loop-part
decreases-loop-part l = length l.rest
