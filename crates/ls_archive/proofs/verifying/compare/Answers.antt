use Rattle.std.proofs.Common.{inr}
use Rattle.std.proofs.lemmas.Result.{err_from_is_err_and}
use Rattle.ls_archive.proofs.ComparingLemmas.{compared}
use Rattle.ls_archive.proofs.VerifyLemmas.{film-unfailed, film-number, verdict-number}
use Rattle.ls_archive.proofs.verifying.compare.Goals as goal

pub returns-clause-compared : goal.returns-clause-compared
returns-clause-compared g c = λ place is.
    compared g.S.Images.stands (g.F.Read.remaining c.args.film.now) (g.F.Read.remaining c.next_image.new.film) place (g.R.Read.remaining c.next_coded.new.recording) c.next_coded.new.source c.args.number
    c.in_ok-image.image c.in_ok-coded.coded c.verdict_at.result c.in_ok-image.ensures.next (c.in_ok-coded.ensures.next place is) c.verdict_at.ensures

pub returns-in_err-coded-clause-stops : goal.returns-in_err-coded-clause-stops
returns-in_err-coded-clause-stops g c = λ place is.
    let p = err_from_is_err_and c.from_residual-in_err-coded.result c.from_residual-in_err-coded.ensures.1 in
    rw (p.1, p.2) (inr (c.in_err-coded.ensures.stops place is))

pub returns-in_err-image-clause-io : goal.returns-in_err-image-clause-io
returns-in_err-image-clause-io g c = λ place is.
    let p = err_from_is_err_and c.from_residual.result c.from_residual.ensures.1 in
    rw (p.1, p.2) (film-unfailed (g.F.Read.remaining c.args.film.now) place (g.R.Read.remaining c.args.recording.now) c.args.number _ c.in_err-image.ensures.stops)

pub returns-in_err-coded-clause-io : goal.returns-in_err-coded-clause-io
returns-in_err-coded-clause-io g c = λ place is.
    let p = err_from_is_err_and c.from_residual-in_err-coded.result c.from_residual-in_err-coded.ensures.1 in
    rw (p.1, p.2) (c.in_err-coded.ensures.io place is)

pub returns-clause-number : goal.returns-clause-number
returns-clause-number g c = rw c.verdict_at.ensures (verdict-number c.args.number c.in_ok-image.image c.in_ok-coded.coded)

pub returns-in_err-image-clause-number : goal.returns-in_err-image-clause-number
returns-in_err-image-clause-number g c =
    let p = err_from_is_err_and c.from_residual.result c.from_residual.ensures.1 in
    rw (p.1, p.2) (film-number (g.F.Read.remaining c.args.film.now) c.args.number _ c.in_err-image.ensures.stops)

pub returns-in_err-coded-clause-number : goal.returns-in_err-coded-clause-number
returns-in_err-coded-clause-number g c =
    let p = err_from_is_err_and c.from_residual-in_err-coded.result c.from_residual-in_err-coded.ensures.1 in
    rw (p.1, p.2) c.in_err-coded.ensures.number
