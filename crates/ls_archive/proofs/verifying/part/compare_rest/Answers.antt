use Rattle.std.proofs.Common.{refl}
use Rattle.ls_archive.proofs.ComparingLemmas.{found-here}
use Rattle.ls_archive.proofs.VerifiedPartLemmas.{reads-film, reads-recording}
use Rattle.ls_archive.proofs.verifying.part.compare_rest.Goals as goal

pub returns-in-Ok-clause-finds : goal.returns-in-Ok-clause-finds
returns-in-Ok-clause-finds g c = (
  c.in-Ok.verdict,
  c.later.ensures,
  found-here (g.F.Read.remaining c.args.film.now) (g.F.Read.remaining c.compare_all.new.film) (g.R.Read.remaining c.args.recording.now)
      (g.R.Read.remaining c.compare_all.new.recording) c.in-Ok.verdict (c.in-Ok.ensures.finds (g.R.Read.remaining c.args.recording.now) refl),
)

pub returns-in-Err-clause-stops : goal.returns-in-Err-clause-stops
returns-in-Err-clause-stops g c = (c.in-Err.fault, c.later-in-Err.ensures, c.in-Err.ensures.stops (g.R.Read.remaining c.args.recording.now) refl)

pub returns-in-Err-clause-io : goal.returns-in-Err-clause-io
returns-in-Err-clause-io g c = (c.in-Err.fault, c.later-in-Err.ensures, c.in-Err.ensures.io (g.R.Read.remaining c.args.recording.now) refl)

pub returns-in-Err-clause-film_reads : goal.returns-in-Err-clause-film_reads
returns-in-Err-clause-film_reads g c = reads-film c.args.first c.later-in-Err.result c.in-Err.fault _ _ c.later-in-Err.ensures c.in-Err.ensures.film_reads

pub returns-in-Ok-clause-recording_reads : goal.returns-in-Ok-clause-recording_reads
returns-in-Ok-clause-recording_reads g c = c.in-Ok.ensures.recording_reads (g.R.Feed.failed_reads c.args.recording.now) refl

pub returns-in-Err-clause-recording_reads : goal.returns-in-Err-clause-recording_reads
returns-in-Err-clause-recording_reads g c =
    reads-recording c.args.first c.later-in-Err.result c.in-Err.fault _ _ c.later-in-Err.ensures (c.in-Err.ensures.recording_reads (g.R.Feed.failed_reads c.args.recording.now) refl)
