use Rattle.ls_reading.proofs.StatusLemmas.{part-shown}
use Rattle.ls_reading.proofs.playing.show.Goals as goal

pub returns-in-Some-clause-part : goal.returns-in-Some-clause-part
returns-in-Some-clause-part g c = λ done.
    rw c.in-Some.is (part-shown _ _ _ _ _ _ _ _ c.show_part-result.result c.conclude.result c.in-Ok.ensures.film c.conclude.ensures c.show_part-result.ensures.shows done)
