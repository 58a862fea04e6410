use Rattle.std.proofs.Common.{◌≡◌}
use Rattle.std.specs.List.{AllWithin}
use Rattle.ls_console.specs.declared.output.TheConstants.{DONE}
use Rattle.ls_reading.specs.View.Each.{IsOfFilm}
use Rattle.ls_reading.specs.View.Statuses.{DoneOrFailed}
use Rattle.ls_reading.proofs.each.verify_pairs.Given as goal

-- the pairs so far are of one film each, if the status is 0
abbrev pub invariant-loop-pair : goal.invariant-loop-pair
invariant-loop-pair g l = DoneOrFailed l.status × (l.status ≡ DONE → AllWithin (λ pair. IsOfFilm g.O.Opens.holds l.opener l.strict pair.0.now pair.1.now) l.pairs 0 l.pair-index)
