use Rattle.ls_frame.proofs.ParameterLemmas.{defaults_legal, defaults_maxval}
use Rattle.ls_frame.proofs.laws.default_parameters_are_legal.Goals as goal

pub returns-clause-legal : goal.returns-clause-legal
returns-clause-legal c = defaults_legal

pub returns-clause-maxval : goal.returns-clause-maxval
returns-clause-maxval c = defaults_maxval
