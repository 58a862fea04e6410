use Rattle.std.proofs.Common.{◌++◌, sym, ap, ◌∙◌}
use Rattle.ls_film.specs.Listing.{lines}
use Rattle.ls_film.proofs.LineLemmas.{lines-push}
use Rattle.ls_film.proofs.listing.LineTextTextFrame.chunk.Goals as goal

pub returns-clause-grows : goal.returns-clause-grows
returns-clause-grows c = λ f is frames count.
    let chunk = ap (λ v. v.items) c.into_bytes.ensures.value ∙ c.in_ok-line.ensures.text in
    rw (sym is) (lines-push frames c.args.frame c.args.number count ∙ ap (λ s. lines frames ++ s) (sym chunk))
