use Rattle.std.proofs.Common.{rules}
use Rattle.ls_recorder.proofs.lane.reading.put_booked.Goals as goal

pub returns-clause-put : goal.returns-clause-put
returns-clause-put g c = search rules
