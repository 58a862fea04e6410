use Rattle.std.proofs.Common.{subst, arith}
use Rattle.ls_queue.specs.View.Account.{IsCounted}
use Rattle.ls_recorder.proofs.RecordingLemmas.{done-tracks, done-counted}
use Rattle.ls_recorder.proofs.recording.settled.Goals as goal

pub returns-clause-tracks : goal.returns-clause-tracks
returns-clause-tracks g c = λ films many run.
    done-tracks g.R.Read.remaining g.R.Feed.failed_reads g.W.Write.contents g.W.Outlet.failed_writes c.args.queue c.in-Ok.account.counts 0 films run.ended _ run.lanes
    (λ k from less. subst (λ p. IsCounted c.in-Ok.account.counts p k) run.puts (c.in-Ok.ensures.3.counted k (omega arith)))

pub returns-clause-account : goal.returns-clause-account
returns-clause-account g c = λ films many run.
    done-counted g.R.Read.remaining g.R.Feed.failed_reads g.W.Write.contents g.W.Outlet.failed_writes c.args.queue c.in-Ok.account.counts 0 films run.ended _ run.lanes
    (λ k from less. subst (λ p. IsCounted c.in-Ok.account.counts p k) run.puts (c.in-Ok.ensures.3.counted k (omega arith)))
