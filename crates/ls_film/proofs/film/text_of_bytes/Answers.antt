use Rattle.std.proofs.Common.{◌≡◌, ℕ, List, [], Some, IfErr, sym, ap, subst, ◌∙◌}
use Rattle.ls_frame.specs.View.Devices.{wrapped}
use Rattle.ls_film.specs.View.Stopping.{Stops}
use Rattle.ls_film.proofs.SliceLemmas.{run-stops}
use Rattle.ls_film.proofs.film.text_of_bytes.Goals as goal

pub returns-clause-stops : goal.returns-clause-stops
returns-clause-stops g c =
    let text = g.T.Text.text in
    let film = c.args.film.now in
    let left = Some c.write_film-ended.new.reader.now in
    let ended = c.write_film-ended.result in
    let none : (wrapped c.new-writer.result).items ≡ [] = ap (λ v. v.items) c.new-writer.ensures.inner ∙ c.new.ensures.items in
    let out : (wrapped c.write_film-ended.new.writer).items ≡ c.into_inner.result.items = sym (ap (λ v. v.items) c.into_inner.ensures) in
    let stops = subst (λ (written : List ℕ). IfErr ended (Stops text (Some film) left (Some []) (Some written))) out
    (subst (λ (written : List ℕ). IfErr ended (Stops text (Some film) left (Some written) (Some (wrapped c.write_film-ended.new.writer).items))) none c.write_film-ended.ensures.stops) in
    run-stops text film c.into_inner.result.items left ended c.write_film-ended.ensures.reads stops
