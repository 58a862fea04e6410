use Rattle.std.proofs.Common.{true≢false}
use Rattle.ls_recorder.proofs.WritingLemmas.{takes-none}
use Rattle.ls_recorder.proofs.lane.writing.some_waits.Goals as goal

pub returns-then-waiting-gt0-clause-done : goal.returns-then-waiting-gt0-clause-done
returns-then-waiting-gt0-clause-done g c = λ no. absurd (true≢false no)

pub returns-then-waiting-gt0-clause-more : goal.returns-then-waiting-gt0-clause-more
returns-then-waiting-gt0-clause-more g c = takes-none _
