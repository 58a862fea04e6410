use Rattle.std.proofs.Common.{inr}
use Rattle.ls_reading.proofs.listed.lines_from.Goals as goal

pub returns-in-Ok-clause-stands : goal.returns-in-Ok-clause-stands
returns-in-Ok-clause-stands g c = inr (inr (_, c.in_ok-lines-2.ensures.film, c.in-Ok.ensures.passed))
