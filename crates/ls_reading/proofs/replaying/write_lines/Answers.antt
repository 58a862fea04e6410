use Rattle.ls_reading.proofs.StatusLemmas.{done_before}
use Rattle.ls_reading.proofs.WritingLemmas.{flushed}
use Rattle.ls_reading.proofs.replaying.write_lines.Goals as goal

pub returns-clause-written : goal.returns-clause-written
returns-clause-written g c = λ done.
    let printed = c.print_to-status.ensures.written (done_before _ _ c.finish_lines.ensures.status done) in
    let wrote = rw c.new.ensures.writer at (rw c.new-lines.ensures.inner at printed) in
    flushed _ _ _ _ _ c.new.ensures.empty (c.finish_lines.ensures.written done) wrote
