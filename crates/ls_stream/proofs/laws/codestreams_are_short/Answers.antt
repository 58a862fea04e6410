use Rattle.ls_stream.proofs.LengthLemmas.{within_bound, bound_small}
use Rattle.ls_stream.proofs.laws.codestreams_are_short.Goals as goal

pub returns-clause-bound : goal.returns-clause-bound
returns-clause-bound c = within_bound

pub returns-clause-small : goal.returns-clause-small
returns-clause-small c f p frame = bound_small f p frame.formed.few
