use Rattle.std.proofs.lemmas.Result.{err_from_is_err_and}
use Rattle.ls_archive.specs.View.Checking.{Line}
use Rattle.ls_archive.proofs.CheckLemmas.{stops-next-line, fails-next-line, stops-lines, fails-lines, stops-at-most, untorn-whole}
use Rattle.ls_archive.proofs.checking.end_at_most.Goals as goal

pub returns-clause-checked : goal.returns-clause-checked
returns-clause-checked g c = λ lines whole found found' run.
    let end = rw c.in-None.is at c.in_ok-next_line.ensures.end in
    c.end_of.ensures.checked lines (g.I.Read.remaining c.args.index.now) (g.I.Read.remaining c.next_line.new.index) whole found found' run end

pub returns-clause-stops : goal.returns-clause-stops
returns-clause-stops g c = λ lines whole found found' run.
    let end = rw c.in-None.is at c.in_ok-next_line.ensures.end in
    c.end_of.ensures.stops lines (g.I.Read.remaining c.args.index.now) (g.I.Read.remaining c.next_line.new.index) whole found found' run end

pub returns-clause-fails : goal.returns-clause-fails
returns-clause-fails g c = λ lines whole found found' run.
    let end = rw c.in-None.is at c.in_ok-next_line.ensures.end in
    c.end_of.ensures.fails lines (g.I.Read.remaining c.args.index.now) (g.I.Read.remaining c.next_line.new.index) whole found found' run end

pub returns-in_default-clause-stops : goal.returns-in_default-clause-stops
returns-in_default-clause-stops g c = λ lines whole found found' run.
    let next = c.in_default.field-0 in
    let l : Line = record { text = next.text.items; size = next.size; sum = next.sum } in
    let is = rw c.in_default.is at c.in_ok-next_line.ensures.is in
    let gave = rw c.in_default.is at c.in_ok-next_line.ensures.gave in
    stops-at-most lines (g.I.Read.remaining c.args.index.now) (g.I.Read.remaining c.next_line.new.index) whole (g.R.Read.remaining c.args.recording.now) found found'
    c.args.so_far.number c.args.so_far.offset c.args.so_far.damaged run c.requires l is gave

pub returns-in_err-next_line-clause-stops : goal.returns-in_err-next_line-clause-stops
returns-in_err-next_line-clause-stops g c = λ lines whole found found' run.
    let p = err_from_is_err_and c.from_residual.result c.from_residual.ensures.1 in
    let index' = g.I.Read.remaining c.next_line.new.index in
    let recording = g.R.Read.remaining c.args.recording.now in
    rw (p.1, p.2) (stops-lines lines index' whole recording found found' _
    (stops-next-line 0 0 lines (g.I.Read.remaining c.args.index.now) index' whole recording recording found found'
    c.args.so_far.number c.args.so_far.offset c.args.so_far.damaged run _ _ c.in_err-next_line.ensures.stops (untorn-whole _ _)))

pub returns-in_err-next_line-clause-fails : goal.returns-in_err-next_line-clause-fails
returns-in_err-next_line-clause-fails g c = λ lines whole found found' run.
    let p = err_from_is_err_and c.from_residual.result c.from_residual.ensures.1 in
    let index' = g.I.Read.remaining c.next_line.new.index in
    let recording = g.R.Read.remaining c.args.recording.now in
    rw (p.1, p.2) (fails-lines lines index' whole recording found found' _
    (fails-next-line 0 0 lines (g.I.Read.remaining c.args.index.now) index' whole recording recording found found'
    c.args.so_far.number c.args.so_far.offset c.args.so_far.damaged run _ c.in_err-next_line.ensures.stops))
