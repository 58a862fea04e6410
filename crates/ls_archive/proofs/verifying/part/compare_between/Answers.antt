use Rattle.std.proofs.Common.{◌<◌, ◌+◌, ◌-◌, refl, sym, ap, ◌∙◌, arith}
use Rattle.ls_frame.specs.View.Devices.{count_after}
use Rattle.ls_archive.specs.View.Verifying.{number_of, number_in}
use Rattle.ls_archive.proofs.VerifiedPartLemmas.{finds-all, finds-within, lacks-within, unfailed-within, reads-film, reads-recording}
use Rattle.ls_archive.proofs.verifying.part.compare_between.Goals as goal

pub returns-in-Ok-None-clause-finds : goal.returns-in-Ok-None-clause-finds
returns-in-Ok-None-clause-finds g c =
    let recording = g.R.Read.remaining c.args.recording.now in
    let same = rw c.in-Ok-None.field-0-is at (c.in-Ok-None.ensures.same recording refl) in
    finds-all (g.F.Read.remaining c.args.film.now) (g.F.Read.remaining c.compare_first.new.film) recording (g.R.Read.remaining c.compare_first.new.recording) c.args.first c.args.last
    (c.args.last - c.args.first + 1) (omega (arith, c.requires.order)) same

pub found_within-requires : goal.found_within-requires
found_within-requires g c =
    let before : number_of c.in-Ok-Some.verdict < c.args.last - c.args.first + 1 = rw c.in-Ok-Some.field-0-is at c.in-Ok-Some.ensures.before in
    omega (arith, before, c.requires.order, c.requires.few)

pub later-requires : goal.later-requires
later-requires g c =
    let less : number_in c.in-Err.fault < c.args.last - c.args.first + 1 = c.in-Err.ensures.number in
    omega (arith, less, c.requires.order, c.requires.few)

pub returns-in-Ok-Some-clause-finds : goal.returns-in-Ok-Some-clause-finds
returns-in-Ok-Some-clause-finds g c =
    let recording = g.R.Read.remaining c.args.recording.now in
    let before : number_of c.in-Ok-Some.verdict < c.args.last - c.args.first + 1 = rw c.in-Ok-Some.field-0-is at c.in-Ok-Some.ensures.before in
    let found = rw c.in-Ok-Some.field-0-is at (c.in-Ok-Some.ensures.finds recording refl) in
    finds-within (g.F.Read.remaining c.args.film.now) (g.F.Read.remaining c.compare_first.new.film) recording (g.R.Read.remaining c.compare_first.new.recording) c.args.first c.args.last
    c.in-Ok-Some.verdict (omega (arith, before, c.requires.order)) found c.found_within.result c.found_within.ensures.differs

pub returns-in-Ok-Some-clause-stops : goal.returns-in-Ok-Some-clause-stops
returns-in-Ok-Some-clause-stops g c =
    let recording = g.R.Read.remaining c.args.recording.now in
    let before : number_of c.in-Ok-Some.verdict < c.args.last - c.args.first + 1 = rw c.in-Ok-Some.field-0-is at c.in-Ok-Some.ensures.before in
    let found = rw c.in-Ok-Some.field-0-is at (c.in-Ok-Some.ensures.finds recording refl) in
    lacks-within (g.F.Read.remaining c.args.film.now) (g.F.Read.remaining c.compare_first.new.film) recording (g.R.Read.remaining c.compare_first.new.recording) c.args.first c.args.last
    c.in-Ok-Some.verdict (omega (arith, before, c.requires.order)) found c.found_within.result c.found_within.ensures.same

pub returns-in-Ok-Some-clause-io : goal.returns-in-Ok-Some-clause-io
returns-in-Ok-Some-clause-io g c =
    unfailed-within (g.F.Read.remaining c.args.film.now) (g.F.Read.remaining c.compare_first.new.film) (g.R.Read.remaining c.args.recording.now) (g.R.Read.remaining c.compare_first.new.recording)
    c.args.first c.args.last c.in-Ok-Some.verdict c.found_within.result c.found_within.ensures.same

pub returns-in-Err-clause-stops : goal.returns-in-Err-clause-stops
returns-in-Err-clause-stops g c = (c.in-Err.fault, c.later.ensures, c.in-Err.ensures.stops (g.R.Read.remaining c.args.recording.now) refl)

pub returns-in-Err-clause-io : goal.returns-in-Err-clause-io
returns-in-Err-clause-io g c = (c.in-Err.fault, c.later.ensures, c.in-Err.ensures.io (g.R.Read.remaining c.args.recording.now) refl)

pub returns-in-Ok-Some-clause-film_reads : goal.returns-in-Ok-Some-clause-film_reads
returns-in-Ok-Some-clause-film_reads g c =
    c.in-Ok-Some.ensures.film_reads ∙ ap (λ b. count_after b (g.F.Feed.failed_reads c.args.film.now)) (sym c.found_within.ensures.film_blame)

pub returns-in-Err-clause-film_reads : goal.returns-in-Err-clause-film_reads
returns-in-Err-clause-film_reads g c = reads-film c.args.first c.later.result c.in-Err.fault _ _ c.later.ensures c.in-Err.ensures.film_reads

pub returns-in-Ok-None-clause-recording_reads : goal.returns-in-Ok-None-clause-recording_reads
returns-in-Ok-None-clause-recording_reads g c = c.in-Ok-None.ensures.recording_reads (g.R.Feed.failed_reads c.args.recording.now) refl

pub returns-in-Ok-Some-clause-recording_reads : goal.returns-in-Ok-Some-clause-recording_reads
returns-in-Ok-Some-clause-recording_reads g c =
    let failed = g.R.Feed.failed_reads c.args.recording.now in
    c.in-Ok-Some.ensures.recording_reads failed refl ∙ ap (λ b. count_after b failed) (sym c.found_within.ensures.recording_blame)

pub returns-in-Err-clause-recording_reads : goal.returns-in-Err-clause-recording_reads
returns-in-Err-clause-recording_reads g c =
    reads-recording c.args.first c.later.result c.in-Err.fault _ _ c.later.ensures (c.in-Err.ensures.recording_reads (g.R.Feed.failed_reads c.args.recording.now) refl)
