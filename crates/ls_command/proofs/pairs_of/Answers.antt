use Rattle.ls_command.proofs.PairLemmas.{next_film, next_pair}
use Rattle.ls_command.proofs.pairs_of.Goals.{in-Some+in_ok-push-in-Some, in-None}
use Rattle.ls_command.proofs.pairs_of.Goals as goal

pub loop-file-preserved : goal.loop-file-preserved
loop-file-preserved c = elim c.match-film.branch [
  | in-Some+in_ok-push-in-Some w ↦
      let same = rw w.in-Some.is at c.loop-file.invariant in
      rw (w.film-is, w.pairs-is, w.in_ok-push-in-Some.ensures.items) (next_pair c.args.first.now c.args.files.now c.loop-file.file-index _ c.loop-file-test.true c.loop-file.pairs.items w.in-Some.own same)
  | in-None w ↦
      let same = rw w.in-None.is at c.loop-file.invariant in
      rw (w.film-is, w.pairs-is) (next_film c.args.first.now c.args.files.now c.loop-file.file-index _ c.loop-file-test.true c.loop-file.pairs.items same)
]
