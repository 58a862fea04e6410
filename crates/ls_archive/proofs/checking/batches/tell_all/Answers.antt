use Rattle.std.proofs.Common.{drop, sym, subst, arith}
use Rattle.ls_archive.specs.View.Batches.{LeadsOn}
use Rattle.ls_archive.proofs.BatchLemmas.{on-err, leads-more, leads-somewhere, leads-all}
use Rattle.ls_archive.proofs.checking.batches.tell_all.Goals as goal

pub returns-in_err-so_far-clause-stops : goal.returns-in_err-so_far-clause-stops
returns-in_err-so_far-clause-stops g c =
    on-err c.from_residual.result
    (leads-somewhere (g.F.Findings.found c.args.findings.now) (g.F.Findings.found c.tell_of.new.findings) c.args.so_far c.loop-job.so_far c.args.jobs.now c.loop-job.job-index c.job-item.result
    (subst (λ told. LeadsOn (g.F.Findings.found c.args.findings.now) told c.args.so_far c.loop-job.so_far c.args.jobs.now (drop c.loop-job.job-index c.args.jobs.now))
    (sym c.in_err-so_far.ensures.none) c.loop-job.invariant.leads) (omega arith))

pub loop-job-preserved : goal.loop-job-preserved
loop-job-preserved g c = record {
  leads = leads-more (g.F.Findings.found c.args.findings.now) (g.F.Findings.found c.loop-job.findings) c.args.so_far c.loop-job.so_far c.args.jobs.now
      (g.F.Findings.found c.tell_of.new.findings) c.in_ok-so_far.so_far c.loop-job.job-index c.job-item.result c.loop-job.invariant.leads (omega arith) c.job-item.is c.in_ok-so_far.ensures.told;
  number = omega (arith, c.in_ok-so_far.ensures.number, c.loop-job.invariant.number);
  bounded = c.in_ok-so_far.ensures.bounded;
  damaged = c.in_ok-so_far.ensures.damaged;
}

pub returns-clause-told : goal.returns-clause-told
returns-clause-told g c =
    leads-all (g.F.Findings.found c.args.findings.now) (g.F.Findings.found c.loop-job.findings) c.args.so_far c.loop-job.so_far c.args.jobs.now
    c.loop-job.job-index c.loop-job.invariant.leads (omega arith)
