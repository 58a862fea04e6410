use Rattle.ls_film.proofs.CodestreamLemmas.{fault-is}
use Rattle.ls_film.proofs.codestreams.made_of.Goals as goal

pub returns-in-Err : goal.returns-in-Err
returns-in-Err g c = fault-is c.args.bytes.now c.in-Err.fault c.in-Err.ensures.fault c.in-Err.ensures.first
