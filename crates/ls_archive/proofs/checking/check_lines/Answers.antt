use Rattle.std.proofs.Common.{◌≡◌, inl, refl, sym, subst, arith, rules}
use Rattle.std.specs.List.{AllZip}
use Rattle.std.proofs.lemmas.Slice.Zip.{AllZip-long}
use Rattle.std.proofs.lemmas.Result.{err_from_is_err_and}
use Rattle.ls_archive.specs.View.Batches.{IsLookedAt}
use Rattle.ls_archive.proofs.BatchLemmas.{told-batch, stops-batch, reads-beyond, several-jobs, more-reads-no-index, more-reads-no-recording, end-no-more, more-comes, end-comes, fault-comes, failure-comes}
use Rattle.ls_archive.proofs.CheckLemmas.{checked-none}
use Rattle.ls_archive.proofs.checking.check_lines.Goals as goal

pub loop-so_far-init : goal.loop-so_far-init
loop-so_far-init g c = record {
  so_far = rw c.requires.none (checked-none c.args.begun.number c.args.begun.offset _ _ _ (omega (arith, c.requires.order, c.requires.few)));
  few = c.requires.order;
  bounded = c.requires.bounded;
  damaged = omega (arith, c.requires.none);
  index_reads = refl;
  reads = refl;
}

pub take-batch-requires-clause-few : goal.take-batch-requires-clause-few
take-batch-requires-clause-few g c = omega (arith, c.min-most.ensures, c.requires.few, c.loop-so_far.invariant.few)

pub take-batch-requires-clause-bounded : goal.take-batch-requires-clause-bounded
take-batch-requires-clause-bounded g c = c.loop-so_far.invariant.bounded

pub tell_all-requires-clause-bounded : goal.tell_all-requires-clause-bounded
tell_all-requires-clause-bounded g c = c.loop-so_far.invariant.bounded

pub tell_all-requires-clause-damaged : goal.tell_all-requires-clause-damaged
tell_all-requires-clause-damaged g c = c.loop-so_far.invariant.damaged

pub returns-in_err-so_far-clause-stops : goal.returns-in_err-so_far-clause-stops
returns-in_err-so_far-clause-stops g c =
    let p = err_from_is_err_and c.from_residual.result c.from_residual.ensures.1 in
    let i = c.loop-so_far.invariant in
    let looked = subst (AllZip IsLookedAt c.take-batch.result.jobs.items) (sym c.deref.ensures.value) c.look_at_all.ensures in
    rw (p.1, p.2)
    (stops-batch c.args.begun.number c.args.begun.offset (g.I.Read.remaining c.args.index.now) (g.R.Read.remaining c.args.recording.now) (g.F.Findings.found c.args.findings.now)
    c.args.until.growing (g.F.Findings.found c.loop-so_far.findings) (g.F.Findings.found c.tell_all.new.findings) c.loop-so_far.so_far
    (g.I.Read.remaining c.loop-so_far.index) (g.R.Read.remaining c.loop-so_far.recording) (g.I.Read.remaining c.take-batch.new.index) (g.R.Read.remaining c.take-batch.new.recording)
    c.take-batch.result c.deref.result.now i.so_far c.take-batch.ensures.batch looked
    c.in_err-so_far.ensures.stops)

pub returns-in-End-clause-checked : goal.returns-in-End-clause-checked
returns-in-End-clause-checked g c =
    let i = c.loop-so_far.invariant in
    let looked = subst (AllZip IsLookedAt c.take-batch.result.jobs.items) (sym c.deref.ensures.value) c.look_at_all.ensures in
    let told = told-batch c.args.begun.number c.args.begun.offset (g.I.Read.remaining c.args.index.now) (g.R.Read.remaining c.args.recording.now) (g.F.Findings.found c.args.findings.now)
    c.args.until.growing (g.F.Findings.found c.loop-so_far.findings) (g.F.Findings.found c.tell_all.new.findings) c.loop-so_far.so_far
    (g.I.Read.remaining c.loop-so_far.index) (g.R.Read.remaining c.loop-so_far.recording) (g.I.Read.remaining c.take-batch.new.index) (g.R.Read.remaining c.take-batch.new.recording)
    c.take-batch.result c.deref.result.now i.so_far c.take-batch.ensures.batch looked
    c.in_ok-so_far.so_far c.in_ok-so_far.ensures.told in
    end-comes c.args.begun.number c.args.begun.offset (g.I.Read.remaining c.args.index.now) (g.R.Read.remaining c.args.recording.now) (g.F.Findings.found c.args.findings.now) c.args.until.growing (g.F.Findings.found c.tell_all.new.findings) c.in_ok-so_far.so_far told.0
    (g.I.Read.remaining c.take-batch.new.index) (g.R.Read.remaining c.take-batch.new.recording) told.1
    c.take-batch.result.after told.2 c.in-End.is

pub returns-in-Fault-clause-stops : goal.returns-in-Fault-clause-stops
returns-in-Fault-clause-stops g c =
    let i = c.loop-so_far.invariant in
    let looked = subst (AllZip IsLookedAt c.take-batch.result.jobs.items) (sym c.deref.ensures.value) c.look_at_all.ensures in
    let told = told-batch c.args.begun.number c.args.begun.offset (g.I.Read.remaining c.args.index.now) (g.R.Read.remaining c.args.recording.now) (g.F.Findings.found c.args.findings.now)
    c.args.until.growing (g.F.Findings.found c.loop-so_far.findings) (g.F.Findings.found c.tell_all.new.findings) c.loop-so_far.so_far
    (g.I.Read.remaining c.loop-so_far.index) (g.R.Read.remaining c.loop-so_far.recording) (g.I.Read.remaining c.take-batch.new.index) (g.R.Read.remaining c.take-batch.new.recording)
    c.take-batch.result c.deref.result.now i.so_far c.take-batch.ensures.batch looked
    c.in_ok-so_far.so_far c.in_ok-so_far.ensures.told in
    fault-comes c.args.begun.number c.args.begun.offset (g.I.Read.remaining c.args.index.now) (g.R.Read.remaining c.args.recording.now) (g.F.Findings.found c.args.findings.now) c.args.until.growing (g.F.Findings.found c.tell_all.new.findings) c.in_ok-so_far.so_far told.0
    (g.I.Read.remaining c.take-batch.new.index) (g.R.Read.remaining c.take-batch.new.recording) told.1
    c.take-batch.result.after told.2 c.in-Fault.fault c.in-Fault.is

pub returns-in-Fault-clause-fails : goal.returns-in-Fault-clause-fails
returns-in-Fault-clause-fails g c =
    let i = c.loop-so_far.invariant in
    let looked = subst (AllZip IsLookedAt c.take-batch.result.jobs.items) (sym c.deref.ensures.value) c.look_at_all.ensures in
    let told = told-batch c.args.begun.number c.args.begun.offset (g.I.Read.remaining c.args.index.now) (g.R.Read.remaining c.args.recording.now) (g.F.Findings.found c.args.findings.now)
    c.args.until.growing (g.F.Findings.found c.loop-so_far.findings) (g.F.Findings.found c.tell_all.new.findings) c.loop-so_far.so_far
    (g.I.Read.remaining c.loop-so_far.index) (g.R.Read.remaining c.loop-so_far.recording) (g.I.Read.remaining c.take-batch.new.index) (g.R.Read.remaining c.take-batch.new.recording)
    c.take-batch.result c.deref.result.now i.so_far c.take-batch.ensures.batch looked
    c.in_ok-so_far.so_far c.in_ok-so_far.ensures.told in
    failure-comes c.args.begun.number c.args.begun.offset (g.I.Read.remaining c.args.index.now) (g.R.Read.remaining c.args.recording.now) (g.F.Findings.found c.args.findings.now) c.args.until.growing (g.F.Findings.found c.tell_all.new.findings) c.in_ok-so_far.so_far told.0
    (g.I.Read.remaining c.take-batch.new.index) (g.R.Read.remaining c.take-batch.new.recording) told.1
    c.take-batch.result.after told.2 c.in-Fault.fault c.in-Fault.is

pub loop-so_far-preserved : goal.loop-so_far-preserved
loop-so_far-preserved g c =
    let i = c.loop-so_far.invariant in
    let looked = subst (AllZip IsLookedAt c.take-batch.result.jobs.items) (sym c.deref.ensures.value) c.look_at_all.ensures in
    let told = told-batch c.args.begun.number c.args.begun.offset (g.I.Read.remaining c.args.index.now) (g.R.Read.remaining c.args.recording.now) (g.F.Findings.found c.args.findings.now)
    c.args.until.growing (g.F.Findings.found c.loop-so_far.findings) (g.F.Findings.found c.tell_all.new.findings) c.loop-so_far.so_far
    (g.I.Read.remaining c.loop-so_far.index) (g.R.Read.remaining c.loop-so_far.recording) (g.I.Read.remaining c.take-batch.new.index) (g.R.Read.remaining c.take-batch.new.recording)
    c.take-batch.result c.deref.result.now i.so_far c.take-batch.ensures.batch looked
    c.in_ok-so_far.so_far c.in_ok-so_far.ensures.told in
    record {
      so_far = more-comes c.args.begun.number c.args.begun.offset (g.I.Read.remaining c.args.index.now) (g.R.Read.remaining c.args.recording.now) (g.F.Findings.found c.args.findings.now) c.args.until.growing (g.F.Findings.found c.tell_all.new.findings) c.in_ok-so_far.so_far told.0
          (g.I.Read.remaining c.take-batch.new.index) (g.R.Read.remaining c.take-batch.new.recording) told.1 c.take-batch.result.after told.2 c.in-More.is;
      few = omega (arith, c.in_ok-so_far.ensures.number, AllZip-long IsLookedAt c.take-batch.result.jobs.items c.deref.result.now looked, c.take-batch.ensures.few, c.min-most.ensures, i.few);
      bounded = c.in_ok-so_far.ensures.bounded;
      damaged = c.in_ok-so_far.ensures.damaged;
      index_reads = search rules;
      reads = search rules;
    }

pub returns-clause-checked : goal.returns-clause-checked
returns-clause-checked g c = record {
  mid = g.I.Read.remaining c.loop-so_far.index;
  checked = c.loop-so_far.invariant.so_far;
  end = λ ended. let clash : ⊥ = cc in absurd clash;
  unread = λ _. refl;
}

pub returns-in_err-so_far-clause-fails : goal.returns-in_err-so_far-clause-fails
returns-in_err-so_far-clause-fails g c =
    let p = err_from_is_err_and c.from_residual.result c.from_residual.ensures.1 in
    rw (p.1, p.2) tt

pub returns-in_err-so_far-clause-index_reads : goal.returns-in_err-so_far-clause-index_reads
returns-in_err-so_far-clause-index_reads g c =
    let p = err_from_is_err_and c.from_residual.result c.from_residual.ensures.1 in
    let looked = subst (AllZip IsLookedAt c.take-batch.result.jobs.items) (sym c.deref.ensures.value) c.look_at_all.ensures in
    rw (p.1, p.2) (reads-beyond g.L.Looking.most _ _ _ (rw c.loop-so_far.invariant.index_reads at c.take-batch.ensures.index_reads)
    (λ failed. several-jobs c.take-batch.result.jobs.items c.deref.result.now c.min-most.result g.L.Looking.most (c.take-batch.ensures.lacks (more-reads-no-index c.take-batch.result.after failed)) looked c.in_err-so_far.ensures.some (omega (arith, c.min-most.ensures, c.batch.ensures.few))))

pub returns-in-End-clause-index_reads : goal.returns-in-End-clause-index_reads
returns-in-End-clause-index_reads g c = inl (rw (c.in-End.is, c.loop-so_far.invariant.index_reads) at c.take-batch.ensures.index_reads)

pub returns-in-Fault-clause-index_reads : goal.returns-in-Fault-clause-index_reads
returns-in-Fault-clause-index_reads g c = inl (rw (c.in-Fault.is, c.loop-so_far.invariant.index_reads) at c.take-batch.ensures.index_reads)

pub returns-clause-index_reads : goal.returns-clause-index_reads
returns-clause-index_reads g c = inl c.loop-so_far.invariant.index_reads

pub returns-in_err-so_far-clause-reads : goal.returns-in_err-so_far-clause-reads
returns-in_err-so_far-clause-reads g c =
    let p = err_from_is_err_and c.from_residual.result c.from_residual.ensures.1 in
    let looked = subst (AllZip IsLookedAt c.take-batch.result.jobs.items) (sym c.deref.ensures.value) c.look_at_all.ensures in
    rw (p.1, p.2) (reads-beyond g.L.Looking.most _ _ _ (rw c.loop-so_far.invariant.reads at c.take-batch.ensures.reads)
    (λ failed. several-jobs c.take-batch.result.jobs.items c.deref.result.now c.min-most.result g.L.Looking.most (c.take-batch.ensures.lacks (more-reads-no-recording c.take-batch.result.after failed)) looked c.in_err-so_far.ensures.some (omega (arith, c.min-most.ensures, c.batch.ensures.few))))

pub returns-in-End-clause-reads : goal.returns-in-End-clause-reads
returns-in-End-clause-reads g c = inl (rw (c.in-End.is, c.loop-so_far.invariant.reads) at c.take-batch.ensures.reads)

pub returns-in-Fault-clause-reads : goal.returns-in-Fault-clause-reads
returns-in-Fault-clause-reads g c = inl (rw (c.in-Fault.is, c.loop-so_far.invariant.reads) at c.take-batch.ensures.reads)

pub returns-clause-reads : goal.returns-clause-reads
returns-clause-reads g c = inl c.loop-so_far.invariant.reads

pub returns-in-End-clause-lacks : goal.returns-in-End-clause-lacks
returns-in-End-clause-lacks g c = λ ended.
    let looked = subst (AllZip IsLookedAt c.take-batch.result.jobs.items) (sym c.deref.ensures.value) c.look_at_all.ensures in
    omega (
      arith,
      c.in_ok-so_far.ensures.number,
      AllZip-long IsLookedAt c.take-batch.result.jobs.items c.deref.result.now looked,
      c.take-batch.ensures.lacks (end-no-more c.take-batch.result.after c.in-End.is),
      c.min-most.ensures,
    )

pub tell_all-requires-clause-few : goal.tell_all-requires-clause-few
tell_all-requires-clause-few g c =
    let looked = subst (AllZip IsLookedAt c.take-batch.result.jobs.items) (sym c.deref.ensures.value) c.look_at_all.ensures in
    omega (
      arith,
      AllZip-long IsLookedAt c.take-batch.result.jobs.items c.deref.result.now looked,
      c.take-batch.ensures.few,
      c.min-most.ensures,
      c.loop-so_far.invariant.few,
      c.requires.few,
    )

pub returns-in-End-clause-all : goal.returns-in-End-clause-all
returns-in-End-clause-all g c = λ other. let clash : ⊥ = cc in absurd clash

pub returns-clause-all : goal.returns-clause-all
returns-clause-all g c = λ _. omega (arith, c.loop-so_far.invariant.few)

pub returns-clause-lacks : goal.returns-clause-lacks
returns-clause-lacks g c = λ ended. let clash : ⊥ = cc in absurd clash
