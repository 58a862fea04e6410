use Rattle.std.proofs.Common.{◌≡◌, ◌∷◌, [], ◌++◌, rules, subst}
use Rattle.std.specs.List.{AllZip}
use Rattle.std.proofs.lemmas.List.{take_all}
use Rattle.ls_opening.proofs.ZipLemmas.{zip-next}
use Rattle.ls_opening.proofs.opening.Opening.claim_films.Goals as goal

pub loop-film-preserved : goal.loop-film-preserved
loop-film-preserved g c =
    let pushed : c.push.new.self.items ≡ c.loop-film.films.items ++ c.in_ok-claim.field-0 ∷ [] = search rules in
    rw pushed (zip-next _ c.args.found.now c.loop-film.film-index c.loop-film.films.items c.film-item.result c.in_ok-claim.field-0 (search rules) c.film-item.is c.loop-film.invariant c.in_ok-claim.ensures)

pub returns : goal.returns
returns g c = subst (λ l. AllZip (λ found film. film.names.now ≡ found.names.now) l c.loop-film.films.items) (take_all c.loop-film.film-index c.args.found.now (search rules)) c.loop-film.invariant
