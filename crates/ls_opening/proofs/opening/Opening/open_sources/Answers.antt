use Rattle.std.proofs.Common.{◌≡◌, ◌∷◌, [], ◌++◌, rules, arith, subst}
use Rattle.std.specs.List.{AllZip}
use Rattle.std.proofs.lemmas.List.{take_all}
use Rattle.ls_files.specs.View.Files.{ReadsFileAt}
use Rattle.ls_opening.proofs.ZipLemmas.{zip-next}
use Rattle.ls_opening.proofs.opening.Opening.open_sources.Goals as goal

pub loop-film-preserved : goal.loop-film-preserved
loop-film-preserved g c =
    let pushed : c.push.new.self.items ≡ c.loop-film.sources.items ++ c.in-Ok.source ∷ [] = search rules in
    rw pushed (zip-next _ c.args.self.now.names.now c.loop-film.film-index c.loop-film.sources.items c.film-item.result c.in-Ok.source (search rules) c.film-item.is c.loop-film.invariant c.in-Ok.ensures)

pub returns : goal.returns
returns g c = subst (λ l. AllZip (λ names source. ReadsFileAt g.O.Opens.holds g.R.File.Read.remaining c.args.self.now.opener names.file.now source) l c.loop-film.sources.items) (take_all c.loop-film.film-index c.args.self.now.names.now (search rules)) c.loop-film.invariant
