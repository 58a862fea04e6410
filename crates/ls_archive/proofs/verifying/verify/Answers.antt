use Rattle.std.proofs.Common.{refl}
use Rattle.std.proofs.lemmas.Result.{IfOk-weaker}
use Rattle.ls_archive.proofs.ComparingLemmas.{found-here}
use Rattle.ls_archive.proofs.verifying.verify.Goals as goal

pub returns-clause-finds : goal.returns-clause-finds
returns-clause-finds g c =
    IfOk-weaker c.compare_all.result _ _
    (λ verdict found. found-here (g.F.Read.remaining c.args.film.now) (g.F.Read.remaining c.compare_all.new.film) (g.R.Read.remaining c.args.recording.now) (g.R.Read.remaining c.compare_all.new.recording) verdict found)
    (c.compare_all.ensures.finds (g.R.Read.remaining c.args.recording.now) refl)

pub returns-clause-io : goal.returns-clause-io
returns-clause-io g c = c.compare_all.ensures.io (g.R.Read.remaining c.args.recording.now) refl
