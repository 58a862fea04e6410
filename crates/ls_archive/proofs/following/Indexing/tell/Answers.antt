use Rattle.std.proofs.Common.{rules}
use Rattle.ls_archive.proofs.following.Indexing.tell.Goals as goal

pub returns-in-Some-clause-index : goal.returns-in-Some-clause-index
returns-in-Some-clause-index g c = search rules
