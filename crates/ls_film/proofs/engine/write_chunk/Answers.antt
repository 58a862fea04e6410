use Rattle.std.proofs.Common.{rules}
use Rattle.ls_film.proofs.engine.write_chunk.Goals as goal

pub returns-in-Err-clause-stops : goal.returns-in-Err-clause-stops
returns-in-Err-clause-stops g c = search rules
