use Rattle.std.proofs.Common.{arith}
use Rattle.ls_recorder.proofs.RecordingLemmas.{done-ends, done-each}
use Rattle.ls_recorder.proofs.recording.threads.run_threads.Goals as goal

pub finish_queue-finished-requires-2-clause-ended : goal.finish_queue-finished-requires-2-clause-ended
finish_queue-finished-requires-2-clause-ended g c =
    done-ends g.R.Read.remaining g.R.Feed.failed_reads g.W.Write.contents g.W.Outlet.failed_writes c.args.shared.now.queue.now 0 c.args.films.items _ _ (c.join_lanes.ensures c.args.films.items c.start_lanes.ensures.lanes)

pub finish_queue-finished-requires-2-clause-each : goal.finish_queue-finished-requires-2-clause-each
finish_queue-finished-requires-2-clause-each g c = λ s less.
    done-each g.R.Read.remaining g.R.Feed.failed_reads g.W.Write.contents g.W.Outlet.failed_writes c.args.shared.now.queue.now 0 c.args.films.items _ _ (c.join_lanes.ensures c.args.films.items c.start_lanes.ensures.lanes) s (omega arith)
    (let f = c.requires.films_are in omega arith)
