use Rattle.std.proofs.Common.{◌≡◌, ◌∙◌, subst}
use Rattle.std.specs.List.{AllZip}
use Rattle.ls_opening.proofs.ZipLemmas.{zip-chain}
use Rattle.ls_opening.proofs.opening.Opening.claim.Goals as goal

pub returns : goal.returns
returns g c =
    zip-chain (λ names found. found.names.now ≡ names) (λ found film. film.names.now ≡ found.names.now) (λ names film. film.names.now ≡ names)
    c.args.self.now.names.now c.in_ok-found.found.items c.in_ok-films.films.items (λ names found film one other. other ∙ one) c.in_ok-found.ensures
    (subst (λ l. AllZip (λ found film. film.names.now ≡ found.names.now) l c.in_ok-films.films.items) c.deref-2.ensures.value c.in_ok-films.ensures)
