use Rattle.ls_frame.proofs.ExponentLemmas.{ceil_log2-reaches, ceil_log2-least}
use Rattle.ls_frame.proofs.laws.ceil_log2_is_least.Goals as goal

pub returns-clause-reaches : goal.returns-clause-reaches
returns-clause-reaches c = ceil_log2-reaches

pub returns-clause-least : goal.returns-clause-least
returns-clause-least c = ceil_log2-least
