use Rattle.std.proofs.Common.{◌≡◌, ◌≢◌, ◌<◌, ◌∷◌, [], ◌++◌, length, rules, arith, refl, sym, ap, subst, ◌∙◌}
use Rattle.std.specs.Prelude.{string_bytes}
use Rattle.std.specs.List.{AllZip}
use Rattle.std.proofs.lemmas.List.{take_all, get_or-set_other}
use Rattle.ls_files.specs.View.Files.{path_of_target}
use Rattle.ls_opening.specs.View.Devices.{IsWriterFor}
use Rattle.ls_opening.proofs.ZipLemmas.{zip-next}
use Rattle.ls_opening.proofs.opening.make_recordings.Goals as goal

pub loop-film-init : goal.loop-film-init
loop-film-init g c = record { made = search rules; left = λ i d less. refl }

pub loop-film-preserved : goal.loop-film-preserved
loop-film-preserved g c =
    let films = c.args.films.now in
    let i = c.loop-film.film-index in
    let film = c.film-item.result in
    let less : i < length films = search rules in
    let pushed : c.push.new.self.items ≡ c.loop-film.writers.items ++ c.writer_of.result ∷ [] = search rules in
    record {
      made = rw pushed (zip-next (λ film writer. IsWriterFor g.O.Makes.kept film.names.now writer) films i c.loop-film.writers.items film c.writer_of.result less
          (c.film-item.is ∙ c.loop-film.invariant.left i film (omega arith)) c.loop-film.invariant.made (ap path_of_target c.writer_of.ensures.target ∙ c.in_ok-targets.ensures.path ∙ ap (λ f. string_bytes f.names.now.recording) (sym c.film-item.is), c.writer_of.ensures.none));
      left = λ k d later. let ne : k ≢ i = omega (arith, later) in rw get_or-set_other (c.loop-film.invariant.left k d (omega (arith, later)));
    }

pub returns : goal.returns
returns g c =
    subst (λ l. AllZip (λ film writer. IsWriterFor g.O.Makes.kept film.names.now writer) l c.loop-film.writers.items) (take_all c.loop-film.film-index c.args.films.now (search rules)) c.loop-film.invariant.made
