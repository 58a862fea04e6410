use Rattle.std.proofs.Common.{◌≡◌, length, sym, ap, subst, ◌∙◌, arith}
use Rattle.std.specs.List.{AllZip}
use Rattle.ls_archive.specs.View.Batches.{IsLookedAt}
use Rattle.ls_film.proofs.AheadLemmas.{lent-back}
use Rattle.ls_archive.proofs.BatchLemmas.{each-looked}
use Rattle.ls_archive.proofs.checking.looking.AloneLooking.look_at_all.Goals as goal

pub returns : goal.returns
returns c =
    let jobs = c.args.jobs.now.items in
    let lent = c.deref_mut-job-items in
    let after = c.loop-job.job-items in
    let kept : length after ≡ length jobs = c.loop-job.auto.job-items ∙ ap length lent.ensures.value in
    subst (AllZip IsLookedAt jobs) (sym (lent-back jobs lent.result.now after c.args.jobs.now.len lent.ensures.value lent.ensures.len c.loop-job.auto.job-items))
    (each-looked jobs after kept (λ i d lt. c.loop-job.invariant.looked i d (omega (arith, lt, kept))))
