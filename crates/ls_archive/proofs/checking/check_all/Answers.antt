use Rattle.std.proofs.lemmas.Result.{err_from_is_err_and}
use Rattle.ls_archive.proofs.CheckLemmas.{fails-lines}
use Rattle.ls_archive.proofs.checking.check_all.Goals as goal

pub returns-in_err-so_far-clause-fails : goal.returns-in_err-so_far-clause-fails
returns-in_err-so_far-clause-fails g c =
    let p = err_from_is_err_and c.from_residual.result c.from_residual.ensures.1 in
    rw (p.1, p.2) (fails-lines (g.I.Read.remaining c.args.index.now) (g.I.Read.remaining c.check_lines.new.index) (g.R.Read.remaining c.args.recording.now)
    (g.R.Read.remaining c.check_lines.new.recording) (g.F.Findings.found c.args.findings.now) (g.F.Findings.found c.check_lines.new.findings) _ c.in_err-so_far.ensures.fails)

pub returns-then-ended-clause-checked : goal.returns-then-ended-clause-checked
returns-then-ended-clause-checked g c =
    let run = c.in_ok-so_far.ensures.checked in
    c.end_of.ensures.checked _ run.mid (g.I.Read.remaining c.check_lines.new.index) _ _ _ run.checked (run.end c.if-ended.true)

pub returns-then-ended-clause-stops : goal.returns-then-ended-clause-stops
returns-then-ended-clause-stops g c =
    let run = c.in_ok-so_far.ensures.checked in
    c.end_of.ensures.stops _ run.mid (g.I.Read.remaining c.check_lines.new.index) _ _ _ run.checked (run.end c.if-ended.true)

pub returns-then-ended-clause-fails : goal.returns-then-ended-clause-fails
returns-then-ended-clause-fails g c =
    let run = c.in_ok-so_far.ensures.checked in
    c.end_of.ensures.fails _ run.mid (g.I.Read.remaining c.check_lines.new.index) _ _ _ run.checked (run.end c.if-ended.true)

pub end_at_most-requires : goal.end_at_most-requires
end_at_most-requires g c = c.in_ok-so_far.ensures.all c.if-ended.false

pub returns-else-ended-clause-checked : goal.returns-else-ended-clause-checked
returns-else-ended-clause-checked g c =
    let run = c.in_ok-so_far.ensures.checked in
    let here = rw (run.unread c.if-ended.false) at run.checked in
    c.end_at_most.ensures.checked _ _ _ _ here

pub returns-else-ended-clause-stops : goal.returns-else-ended-clause-stops
returns-else-ended-clause-stops g c =
    let run = c.in_ok-so_far.ensures.checked in
    let here = rw (run.unread c.if-ended.false) at run.checked in
    c.end_at_most.ensures.stops _ _ _ _ here

pub returns-else-ended-clause-fails : goal.returns-else-ended-clause-fails
returns-else-ended-clause-fails g c =
    let run = c.in_ok-so_far.ensures.checked in
    let here = rw (run.unread c.if-ended.false) at run.checked in
    c.end_at_most.ensures.fails _ _ _ _ here
