use Rattle.std.proofs.lemmas.Result.{IfOk-weaker}
use Rattle.ls_film.specs.View.Sources.{IsItself}
use Rattle.ls_film.proofs.AheadLemmas.{ahead-none}
use Rattle.ls_archive.proofs.verifying.verify_by.Goals as goal

pub returns-clause-finds : goal.returns-clause-finds
returns-clause-finds g c =
    let place = g.R.Read.remaining c.args.recording.now in
    IfOk-weaker c.compare_all.result _ _ (λ verdict found. (found.0, found.1))
    (c.compare_all.ensures.finds place (ahead-none IsItself place place c.new-source.result.ahead c.new-source.ensures.jobs c.new-source.ensures.after))

pub returns-clause-stops : goal.returns-clause-stops
returns-clause-stops g c =
    let place = g.R.Read.remaining c.args.recording.now in
    c.compare_all.ensures.stops place (ahead-none IsItself place place c.new-source.result.ahead c.new-source.ensures.jobs c.new-source.ensures.after)

pub returns-clause-io : goal.returns-clause-io
returns-clause-io g c =
    let place = g.R.Read.remaining c.args.recording.now in
    c.compare_all.ensures.io place (ahead-none IsItself place place c.new-source.result.ahead c.new-source.ensures.jobs c.new-source.ensures.after)
