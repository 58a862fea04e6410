use Rattle.std.proofs.Common.{◌≡◌, ◌<◌, ◌∷◌, [], ◌++◌, length, rules, subst, ◌∙◌}
use Rattle.std.specs.List.{AllZip}
use Rattle.std.proofs.lemmas.List.{take_all}
use Rattle.ls_opening.proofs.ZipLemmas.{zip-next-or}
use Rattle.ls_opening.proofs.names.names_once.Goals as goal

pub loop-place-preserved : goal.loop-place-preserved
loop-place-preserved c =
    let files = c.args.asked.now.files.items in
    let i = c.loop-place.place in
    let film = c.in_ok-film_names.field-0 in
    let less : i < length files = search rules in
    let pushed : c.push.new.self.items ≡ c.loop-place.names.items ++ film ∷ [] = search rules in
    let at : c.deref.result.now ≡ files = search rules in
    rw pushed (zip-next-or _ files i c.loop-place.names.items c.file_at-file.result film less c.loop-place.invariant (c.in_ok-film_names.ensures ∙ (rw at at c.file_at-file.ensures)))
