use Rattle.std.proofs.Common.{sym, ap, ◌∙◌}
use Rattle.ls_archive.proofs.CodedLemmas.{codes-with-index}
use Rattle.ls_archive.proofs.coding.code_from.Goals as goal

pub returns-clause-completes : goal.returns-clause-completes
returns-clause-completes g c =
    let contents = g.W.Write.contents in
    let parts = c.into_parts-recording in
    rw c.into_inner.ensures
    (codes-with-index g.I.Write.contents (g.R.Read.remaining c.args.film.now) (g.R.Read.remaining c.code_film_by-result.new.reader) g.K.Beginning.start
    (contents parts.result.0) g.K.Beginning.begun parts.result.1 parts.result.2 c.broken_at_end-broken.result c.code_film_by-result.result _ _
    (ap contents c.new-writer.ensures ∙ sym c.requires.start) (ap contents (sym parts.ensures.recording)) c.code_film_by-result.ensures.completes parts.ensures.index
    c.broken_at_end-broken.ensures)
