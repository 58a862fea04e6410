use Rattle.ls_film.proofs.CodestreamLemmas.{outlined-decoded, fault-is}
use Rattle.ls_film.proofs.codestreams.first_fault.Goals as goal

pub returns-in-Ok : goal.returns-in-Ok
returns-in-Ok c = outlined-decoded c.args.bytes.now c.args.found c.outlines_follow_the_grammar.ensures.are_read c.requires c.in-Ok._decoded.used c.in-Ok._decoded.frame c.in-Ok.ensures.ok.1

pub returns-in-Err : goal.returns-in-Err
returns-in-Err c = fault-is c.args.bytes.now c.in-Err.fault c.in-Err.ensures.fault c.in-Err.ensures.first
