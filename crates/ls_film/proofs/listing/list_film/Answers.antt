use Rattle.std.proofs.Common.{rules}
use Rattle.ls_film.proofs.listing.list_film.Goals as goal

pub returns-clause-completes : goal.returns-clause-completes
returns-clause-completes g c = search rules

pub returns-clause-reads : goal.returns-clause-reads
returns-clause-reads g c = search rules

pub returns-clause-writes : goal.returns-clause-writes
returns-clause-writes g c = search rules
