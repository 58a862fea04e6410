use Rattle.std.proofs.Common.{refl}
use Rattle.ls_film.proofs.PlayLemmas.{play-stops-at, reads-plain}
use Rattle.ls_film.proofs.playing.play_recording.Goals as goal

pub returns-in-Err-clause-stops : goal.returns-in-Err-clause-stops
returns-in-Err-clause-stops g c =
    let why = c.in-Err.ensures.stops (g.R.Read.remaining c.args.reader.now) refl in
    rw c.of.ensures (play-stops-at _ _ _ _ _ c.in-Err.stopped why.1 why.2)

pub returns-in-Err-clause-reads : goal.returns-in-Err-clause-reads
returns-in-Err-clause-reads g c =
    rw c.of.ensures (reads-plain (g.R.Feed.failed_reads c.args.reader.now) _ c.in-Err.stopped (c.in-Err.ensures.reads (g.R.Feed.failed_reads c.args.reader.now) refl))
