use Rattle.std.proofs.Common.{◌≡◌}
use Rattle.std.specs.Prelude.{take}
use Rattle.std.specs.List.{AllZip}
use Rattle.ls_opening.proofs.opening.Opening.claim_films.Given as goal

-- the places of the films so far are claimed
abbrev pub invariant-loop-film : goal.invariant-loop-film
invariant-loop-film g l = AllZip (λ found film. film.names.now ≡ found.names.now) (take l.film-index l.found) l.films.items
