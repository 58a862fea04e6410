use Rattle.std.proofs.Common.{subst}
use Rattle.std.specs.Prelude.{slice_index_or}
use Rattle.ls_film.specs.declared.ahead.Fetched.{Fetched}
use Rattle.ls_film.proofs.AheadLemmas.{Works, all-made}
use Rattle.ls_film.proofs.ahead.work_on_all.Goals as goal

pub returns : goal.returns
returns g c =
    all-made g.T.Made.made c.args.jobs.now c.for_each_mut.new.s c.for_each_mut.auto.s
    (λ i d lt. let at = (c.for_each_mut.ensures i d lt).1 in
    subst (λ (job : Fetched g.row.T.Denot). Works g.T.Made.made (slice_index_or c.args.jobs.now i d) job) at.left
    (subst (λ (job : Fetched g.row.T.Denot). Works g.T.Made.made job at.after_call.now) at.argument_is at.call))
