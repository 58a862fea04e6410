use Rattle.ls_archive.specs.View.Following.{following, broken}
use Rattle.ls_archive.proofs.FollowLemmas.{indexed-complete}
use Rattle.ls_archive.proofs.following.Indexing.into_parts.Goals as goal

pub returns-clause-recorded : goal.returns-clause-recorded
returns-clause-recorded g c = λ start begun bytes is. (is.recording, is.index)

pub returns-clause-complete : goal.returns-clause-complete
returns-clause-complete g c = λ start begun bytes is.
    indexed-complete g.I.Write.contents begun bytes (following c.args.self) (broken c.args.self) is.index
