use Rattle.ls_coding.proofs.GolombParameterLemmas.{golomb_parameter-reaches, golomb_parameter-least}
use Rattle.ls_coding.proofs.laws.golomb_parameter_is_least.Goals as goal

pub returns-clause-reaches : goal.returns-clause-reaches
returns-clause-reaches c = golomb_parameter-reaches

pub returns-clause-least : goal.returns-clause-least
returns-clause-least c = golomb_parameter-least
