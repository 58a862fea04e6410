use Rattle.std.proofs.lemmas.Result.{err_from_is_err_and, IfOk-weaker}
use Rattle.ls_film.specs.Film.{most_frames}
use Rattle.ls_archive.specs.View.Verifying.{at_most}
use Rattle.ls_archive.proofs.VerifyLemmas.{run-stops, run-fails, most-ends, most-stops, most-fails, most-number, number-few}
use Rattle.ls_archive.proofs.verifying.compare_all.Goals as goal

pub returns-in_err-first-clause-stops : goal.returns-in_err-first-clause-stops
returns-in_err-first-clause-stops g c = λ begun stands.
    let p = err_from_is_err_and c.from_residual.result c.from_residual.ensures.1 in
    rw (p.1, p.2) (c.in_err-first.ensures.stops begun stands)

pub returns-in_err-first-clause-io : goal.returns-in_err-first-clause-io
returns-in_err-first-clause-io g c = λ begun stands.
    let p = err_from_is_err_and c.from_residual.result c.from_residual.ensures.1 in
    rw (p.1, p.2) (c.in_err-first.ensures.io begun stands)

pub returns-in_err-first-clause-number : goal.returns-in_err-first-clause-number
returns-in_err-first-clause-number g c =
    let p = err_from_is_err_and c.from_residual.result c.from_residual.ensures.1 in
    rw (p.1, p.2) (number-few _ _ c.in_err-first.ensures.number)

pub returns-in-Some-clause-finds : goal.returns-in-Some-clause-finds
returns-in-Some-clause-finds g c = λ begun stands. rw c.in-Some.is at (c.in_ok-first.ensures.finds begun stands)

pub returns-in-Some-clause-number : goal.returns-in-Some-clause-number
returns-in-Some-clause-number g c = let before = rw c.in-Some.is at c.in_ok-first.ensures.before in number-few _ _ before

pub returns-in_err-last-clause-number : goal.returns-in_err-last-clause-number
returns-in_err-last-clause-number g c =
    let p = err_from_is_err_and c.from_residual-in_err-last.result c.from_residual-in_err-last.ensures.1 in
    rw (p.1, p.2) c.in_err-last.ensures.number

pub returns-in_err-last-clause-stops : goal.returns-in_err-last-clause-stops
returns-in_err-last-clause-stops g c = λ begun stands.
    let p = err_from_is_err_and c.from_residual-in_err-last.result c.from_residual-in_err-last.ensures.1 in
    let i = rw c.in_default.is at (c.in_ok-first.ensures.same begun stands) in
    rw (p.1, p.2)
    (run-stops (g.F.Read.remaining c.args.film.now) (g.F.Read.remaining c.compare_first.new.film) (g.F.Read.remaining c.compare.new.film)
    begun i.0 (g.R.Read.remaining c.compare.new.recording)
    most_frames i.2 _ (c.in_err-last.ensures.stops i.0 i.1))

pub returns-in_err-last-clause-io : goal.returns-in_err-last-clause-io
returns-in_err-last-clause-io g c = λ begun stands.
    let p = err_from_is_err_and c.from_residual-in_err-last.result c.from_residual-in_err-last.ensures.1 in
    let i = rw c.in_default.is at (c.in_ok-first.ensures.same begun stands) in
    rw (p.1, p.2)
    (run-fails (g.F.Read.remaining c.args.film.now) (g.F.Read.remaining c.compare_first.new.film) begun i.0 (g.R.Read.remaining c.compare.new.recording)
    most_frames i.2 _ (c.in_err-last.ensures.io i.0 i.1))

pub returns-clause-finds : goal.returns-clause-finds
returns-clause-finds g c = λ begun stands.
    let i = rw c.in_default.is at (c.in_ok-first.ensures.same begun stands) in
    let has = c.in_ok-last.ensures.compared i.0 i.1 in
    rw c.at_most.ensures
    (IfOk-weaker (at_most c.in_ok-last.last) _ _ (λ verdict finds. (has.0, finds, has.3))
    (most-ends (g.F.Read.remaining c.args.film.now) (g.F.Read.remaining c.compare_first.new.film) (g.F.Read.remaining c.compare.new.film)
    begun i.0 has.0 i.2 c.in_ok-last.last has.1))

pub returns-clause-stops : goal.returns-clause-stops
returns-clause-stops g c = λ begun stands.
    let i = rw c.in_default.is at (c.in_ok-first.ensures.same begun stands) in
    let has = c.in_ok-last.ensures.compared i.0 i.1 in
    rw c.at_most.ensures
    (most-stops (g.F.Read.remaining c.args.film.now) (g.F.Read.remaining c.compare_first.new.film) (g.F.Read.remaining c.compare.new.film)
    begun i.0 has.0 i.2 c.in_ok-last.last has.1)

pub returns-clause-io : goal.returns-clause-io
returns-clause-io g c = λ begun stands.
    rw c.at_most.ensures (most-fails begun (g.R.Read.remaining c.compare.new.recording) c.in_ok-last.last)

pub returns-clause-number : goal.returns-clause-number
returns-clause-number g c = rw c.at_most.ensures (most-number c.in_ok-last.last c.in_ok-last.ensures.number)
