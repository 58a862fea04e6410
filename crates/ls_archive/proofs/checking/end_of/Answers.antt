use Rattle.std.proofs.lemmas.Result.{err_from_is_err_and}
use Rattle.ls_archive.proofs.CheckLemmas.{checked-end, stops-at-end, fails-at-end}
use Rattle.ls_archive.proofs.checking.end_of.Goals as goal

pub returns-clause-checked : goal.returns-clause-checked
returns-clause-checked g c = λ lines mid index' whole found found' run end.
    checked-end lines mid index' whole (g.R.Read.remaining c.args.recording.now) found found' c.args.so_far.number c.args.so_far.offset c.args.so_far.damaged c.in_ok-more.more run end
    c.in_ok-more.ensures.more

pub returns-in_err-more-clause-stops : goal.returns-in_err-more-clause-stops
returns-in_err-more-clause-stops g c = λ lines mid index' whole found found' run end.
    let p = err_from_is_err_and c.from_residual.result c.from_residual.ensures.1 in
    rw (p.1, p.2) (stops-at-end lines mid index' whole (g.R.Read.remaining c.args.recording.now) (g.R.Read.remaining c.has_more.new.reader) found found'
    c.args.so_far.number c.args.so_far.offset c.args.so_far.damaged run end _ c.in_err-more.ensures.stops)

pub returns-in_err-more-clause-fails : goal.returns-in_err-more-clause-fails
returns-in_err-more-clause-fails g c = λ lines mid index' whole found found' run end.
    let p = err_from_is_err_and c.from_residual.result c.from_residual.ensures.1 in
    rw (p.1, p.2) (fails-at-end lines mid index' whole (g.R.Read.remaining c.args.recording.now) (g.R.Read.remaining c.has_more.new.reader) found found'
    c.args.so_far.number c.args.so_far.offset c.args.so_far.damaged run end _ c.in_err-more.ensures.stops)
