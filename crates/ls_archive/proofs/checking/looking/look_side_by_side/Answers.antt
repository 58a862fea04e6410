use Rattle.std.proofs.Common.{subst}
use Rattle.std.specs.Prelude.{slice_index_or}
use Rattle.ls_archive.specs.declared.checking.batches.Listed.{Listed}
use Rattle.ls_archive.specs.View.Batches.{IsLookedAt}
use Rattle.ls_archive.proofs.BatchLemmas.{each-looked, looked-whole}
use Rattle.ls_archive.proofs.checking.looking.look_side_by_side.Goals as goal

pub returns : goal.returns
returns g c =
    looked-whole c.args.jobs.now.items c.deref_mut.result.now c.for_each_mut.new.s c.args.jobs.now.len c.deref_mut.ensures.value c.deref_mut.ensures.len c.for_each_mut.auto.s
    (each-looked c.deref_mut.result.now c.for_each_mut.new.s c.for_each_mut.auto.s
    (λ i d lt. let at = (c.for_each_mut.ensures i d lt).1 in
    subst (λ (job : Listed). IsLookedAt (slice_index_or c.deref_mut.result.now i d) job) at.left
    (subst (λ (job : Listed). IsLookedAt job at.after_call.now) at.argument_is at.call)))
