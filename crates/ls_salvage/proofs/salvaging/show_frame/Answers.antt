use Rattle.std.proofs.Common.{rules}
use Rattle.ls_salvage.proofs.salvaging.show_frame.Goals as goal

pub returns-in-Ok-clause-shown : goal.returns-in-Ok-clause-shown
returns-in-Ok-clause-shown g c = search rules

pub returns-clause-stops : goal.returns-clause-stops
returns-clause-stops g c = search rules
