use Rattle.std.proofs.Common.{refl, arith}
use Rattle.ls_film.proofs.PlayLemmas.{play-stops-at, reads-plain}
use Rattle.ls_film.proofs.PartLemmas.{shows-all, shows-run}
use Rattle.ls_film.proofs.part.show_next.Goals as goal

pub returns-in-Ok-clause-shows : goal.returns-in-Ok-clause-shows
returns-in-Ok-clause-shows g c = shows-all _ _ _ _ c.in-Ok.frames (c.in-Ok.ensures.completes (g.R.Read.remaining c.args.reader.now) refl)

pub returns-in-Ok-clause-ended : goal.returns-in-Ok-clause-ended
returns-in-Ok-clause-ended g c = λ _ told. ((c.in-Ok.ensures.completes (g.R.Read.remaining c.args.reader.now) refl).gave told).1

pub returns-in-Ok-clause-few : goal.returns-in-Ok-clause-few
returns-in-Ok-clause-few g c =
    let all = c.in-Ok.ensures.completes (g.R.Read.remaining c.args.reader.now) refl in
    omega (arith, all.count, all.few)

pub returns-in-Ok-write_at_most-clause-shows : goal.returns-in-Ok-write_at_most-clause-shows
returns-in-Ok-write_at_most-clause-shows g c =
    let read = g.R.Read.remaining c.args.reader.now in
    shows-run read _ _ _ c.in-Ok-write_at_most.run'.ended c.in-Ok-write_at_most.run'.frames (c.in-Ok-write_at_most.ensures.ended read refl) (c.in-Ok-write_at_most.ensures.run read refl)

pub returns-in-Err-clause-stops : goal.returns-in-Err-clause-stops
returns-in-Err-clause-stops g c =
    let why = c.in-Err.ensures.stops (g.R.Read.remaining c.args.reader.now) refl in
    rw c.of.ensures (play-stops-at _ _ _ _ _ c.in-Err.stopped why.1 why.2)

pub returns-in-Err-clause-reads : goal.returns-in-Err-clause-reads
returns-in-Err-clause-reads g c =
    rw c.of.ensures (reads-plain (g.R.Feed.failed_reads c.args.reader.now) _ c.in-Err.stopped (c.in-Err.ensures.reads (g.R.Feed.failed_reads c.args.reader.now) refl))

pub returns-in-Err-write_at_most-clause-stops : goal.returns-in-Err-write_at_most-clause-stops
returns-in-Err-write_at_most-clause-stops g c =
    let why = c.in-Err-write_at_most.ensures.stops (g.R.Read.remaining c.args.reader.now) refl in
    rw c.of-in-Err-write_at_most.ensures (play-stops-at _ _ _ _ _ c.in-Err-write_at_most.stopped why.1 why.2)

pub returns-in-Err-write_at_most-clause-reads : goal.returns-in-Err-write_at_most-clause-reads
returns-in-Err-write_at_most-clause-reads g c =
    rw c.of-in-Err-write_at_most.ensures (reads-plain (g.R.Feed.failed_reads c.args.reader.now) _ c.in-Err-write_at_most.stopped (c.in-Err-write_at_most.ensures.reads (g.R.Feed.failed_reads c.args.reader.now) refl))
