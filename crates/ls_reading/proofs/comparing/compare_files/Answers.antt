use Rattle.ls_reading.proofs.StatusLemmas.{same-frames}
use Rattle.ls_reading.proofs.comparing.compare_files.Goals as goal

pub returns-in-Ok-verify_lent-clause-same : goal.returns-in-Ok-verify_lent-clause-same
returns-in-Ok-verify_lent-clause-same g c = λ done.
    same-frames _ _ _ _ _ _ _ c.in-Ok-verify_lent.verdict c.say_verdict.result c.in-Ok.ensures.film c.in-Ok-open_film.ensures.film c.in-Ok-verify_lent.ensures.finds
    c.say_verdict.ensures done
