use Rattle.ls_c.proofs.OpeningLemmas.{zeros_small}
use Rattle.ls_c.proofs.coding.decode_at.Goals as goal

pub decode_arranged-requires-clause-small : goal.decode_arranged-requires-clause-small
decode_arranged-requires-clause-small g c = zeros_small c.args.opening.now.parameters.maxval (g.S.Sample.numbers c.clear.new.places) c.clear.ensures.zeros

pub returns-clause-complete : goal.returns-clause-complete
returns-clause-complete g c front rest f e s = absurd (c.in-Err.ensures.complete front rest f e s)
