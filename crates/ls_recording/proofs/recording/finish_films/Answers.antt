use Rattle.ls_recording.proofs.recording.finish_films.Goals as goal

pub returns : goal.returns
returns g c = λ done. c.end_films-files.ensures (c.status_of.ensures done)
