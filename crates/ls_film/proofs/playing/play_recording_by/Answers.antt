use Rattle.std.proofs.Common.{refl}
use Rattle.ls_film.specs.View.Sources.{IsShown}
use Rattle.ls_film.proofs.AheadLemmas.{ahead-none}
use Rattle.ls_film.proofs.PlayLemmas.{play-stops-ahead}
use Rattle.ls_film.proofs.playing.play_recording_by.Goals as goal

pub returns-in-Ok-clause-completes : goal.returns-in-Ok-clause-completes
returns-in-Ok-clause-completes g c =
    let place = g.R.Read.remaining c.args.reader.now in
    c.in-Ok.ensures.completes place (ahead-none IsShown place place c.new-source.result.ahead c.new-source.ensures.jobs c.new-source.ensures.after)

pub returns-in-Ok-clause-reads : goal.returns-in-Ok-clause-reads
returns-in-Ok-clause-reads g c =
    rw c.in-Ok.ensures.ended at (c.in-Ok.ensures.reads (g.R.Feed.failed_reads c.args.reader.now) (rw c.new-source.ensures.after refl))

pub returns-clause-stops : goal.returns-clause-stops
returns-clause-stops g c =
    let place = g.R.Read.remaining c.args.reader.now in
    let why = c.in-Err.ensures.stops place (ahead-none IsShown place place c.new-source.result.ahead c.new-source.ensures.jobs c.new-source.ensures.after) in
    rw c.of.ensures (play-stops-ahead place why.0 _ _ _ c.in-Err.stopped why.2)
