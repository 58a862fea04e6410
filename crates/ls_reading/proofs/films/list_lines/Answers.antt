use Rattle.ls_reading.proofs.StatusLemmas.{done_before}
use Rattle.ls_reading.proofs.WritingLemmas.{writes_text}
use Rattle.ls_reading.proofs.films.list_lines.Goals as goal

pub returns-clause-lists : goal.returns-clause-lists
returns-clause-lists g c = λ done.
    let listed = c.list_through-status.ensures.lists (done_before _ _ c.finish_lines.ensures.status done) in
    let wrote = rw c.new.ensures.writer at (rw c.new-lines.ensures.inner at listed) in
    writes_text _ _ _ _ _ _ _ c.new.ensures.empty (c.finish_lines.ensures.written done) _ _ wrote
