use Rattle.std.proofs.KnownBytes.{Appends-nil}
use Rattle.ls_archive.proofs.FollowLemmas.{indexed-none}
use Rattle.ls_archive.proofs.following.Indexing.new.Goals as goal

pub returns-clause-begins : goal.returns-clause-begins
returns-clause-begins g c = λ begun begins. record {
  recording = Appends-nil (g.W.Write.contents c.args.recording);
  index = indexed-none g.I.Write.contents begun c.args.index begins;
}
