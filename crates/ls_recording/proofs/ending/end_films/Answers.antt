use Rattle.ls_recording.proofs.ending.end_films.Goals as goal

pub returns-in-Ok-end_tracks : goal.returns-in-Ok-end_tracks
returns-in-Ok-end_tracks g c = λ so. rw c.in-Ok.is (c.in-Ok-end_tracks.ensures so)
