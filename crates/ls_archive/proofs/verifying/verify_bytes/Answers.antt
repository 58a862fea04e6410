use Rattle.ls_archive.proofs.VerdictLemmas.{finds_in, stops_in, whole_verdict}
use Rattle.ls_archive.proofs.verifying.verify_bytes.Goals as goal

pub returns-clause-finds : goal.returns-clause-finds
returns-clause-finds c = finds_in c.args.film.now c.args.recording.now _ _ c.verify.result c.verify.ensures.finds

pub returns-clause-stops : goal.returns-clause-stops
returns-clause-stops c = stops_in c.args.film.now c.args.recording.now c.verify.result c.verify.ensures.film_reads c.verify.ensures.recording_reads c.verify.ensures.stops

pub returns-clause-of_films : goal.returns-clause-of_films
returns-clause-of_films c = λ frames others few few' images codestreams.
    whole_verdict c.no_image_begins_another.ensures c.images_have_one_frame.ensures c.bytes_break_or_hold_an_image.ensures.none
    c.no_codestream_begins_another.ensures c.one_frame_each.ensures c.args.film.now c.args.recording.now frames others few few' images codestreams
    c.verify.result (returns-clause-finds c) (returns-clause-stops c)
