use Rattle.std.proofs.Common.{rules}
use Rattle.ls_recorder.proofs.PlaceLemmas.{begins, halves_made}
use Rattle.ls_recorder.proofs.lane.places.Places.new.Goals as goal

pub bounded_with-requires-clause-rule : goal.bounded_with-requires-clause-rule
bounded_with-requires-clause-rule c = begins

pub another-other-requires-clause-rule : goal.another-other-requires-clause-rule
another-other-requires-clause-rule c = halves_made _ _ (search rules)
