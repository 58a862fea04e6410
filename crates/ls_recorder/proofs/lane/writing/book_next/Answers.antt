use Rattle.ls_recorder.proofs.WritingLemmas.{takes-one}
use Rattle.ls_recorder.proofs.lane.writing.book_next.Goals as goal

pub returns-then-booked-eq-MOST_FRAMES-clause-more : goal.returns-then-booked-eq-MOST_FRAMES-clause-more
returns-then-booked-eq-MOST_FRAMES-clause-more g c = takes-one _ _ c.in-Job.job c.in-Job.ensures.taken.2

pub returns-clause-more : goal.returns-clause-more
returns-clause-more g c = takes-one _ _ c.in-Job.job c.in-Job.ensures.taken.2
