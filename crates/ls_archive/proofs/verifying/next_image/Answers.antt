use Rattle.ls_archive.proofs.VerifyLemmas.{stops_image}
use Rattle.ls_archive.proofs.verifying.next_image.Goals as goal

pub returns-in-Err-clause-stops : goal.returns-in-Err-clause-stops
returns-in-Err-clause-stops g c =
    rw c.of_film.ensures
    (stops_image (g.F.Read.remaining c.args.film.now) (g.F.Read.remaining c.next_frame.new.reader) c.args.number c.in-Err.fault c.in-Err.ensures.broken c.in-Err.ensures.memory)
