use Rattle.std.proofs.Common.{rules}
use Rattle.ls_archive.proofs.FollowLemmas.{recorded-kept}
use Rattle.ls_archive.proofs.following.IndexingWrite.flush.Goals as goal

pub returns-clause-recorded : goal.returns-clause-recorded
returns-clause-recorded g c = λ start begun bytes is.
    recorded-kept g.W.Write.contents g.I.Write.contents start begun bytes c.args.self.now _ is (search rules) (search rules)
