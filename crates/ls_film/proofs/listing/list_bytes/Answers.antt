use Rattle.std.proofs.Common.{rules}
use Rattle.ls_film.proofs.listing.list_bytes.Goals as goal

pub returns-clause-completes : goal.returns-clause-completes
returns-clause-completes c = search rules
