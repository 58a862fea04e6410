use Rattle.std.proofs.Common.{◌≡◌}
use Rattle.std.specs.Prelude.{take}
use Rattle.std.specs.List.{AllZip}
use Rattle.ls_opening.proofs.opening.Opening.look_at.Given as goal

-- the films so far were looked at
abbrev pub invariant-loop-names : goal.invariant-loop-names
invariant-loop-names g l = AllZip (λ names film. film.names.now ≡ names) (take l.names-index l.self.names.now) l.films.items
