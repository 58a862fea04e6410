use Rattle.std.proofs.Common.{take, rules}
use Rattle.std.proofs.lemmas.Result.{err_from_is_err_and}
use Rattle.ls_archive.proofs.FollowLemmas.{recorded-more, recorded-kept}
use Rattle.ls_archive.proofs.following.IndexingWrite.write.Goals as goal

pub returns-clause-recorded : goal.returns-clause-recorded
returns-clause-recorded g c = λ start begun bytes is.
    recorded-more g.W.Write.contents g.I.Write.contents start begun bytes c.args.self.now c.tell.new.self is (take c.in_ok-taken.taken c.args.buf.now) (search rules) (search rules)

pub returns-in_err-taken-clause-recorded : goal.returns-in_err-taken-clause-recorded
returns-in_err-taken-clause-recorded g c =
    let p = err_from_is_err_and c.from_residual.result c.from_residual.ensures.1 in
    rw (p.1) (λ start begun bytes is.
    recorded-kept g.W.Write.contents g.I.Write.contents start begun bytes c.args.self.now _ is (search rules) (search rules))
