use Rattle.std.proofs.Common.{length}
use Rattle.ls_c.proofs.ExtentsLemmas.{IsPast}
use Rattle.ls_c.proofs.extent.next_extents.Given as goal

-- the codestreams before the rest were passed
abbrev pub invariant-loop-rest : goal.invariant-loop-rest
invariant-loop-rest l = IsPast l.fn.bytes l.fn.extents l.extents l.rest l.found l.count l.fault

abbrev pub decreases-loop-rest : goal.decreases-loop-rest
decreases-loop-rest l = length l.rest
