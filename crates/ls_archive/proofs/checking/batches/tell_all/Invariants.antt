use Rattle.std.proofs.Common.{◌≡◌, ◌≤◌, ◌+◌, ◌*◌, ◌^◌, drop}
use Rattle.ls_archive.specs.View.Batches.{LeadsOn}
use Rattle.ls_archive.proofs.checking.batches.tell_all.Given as goal

-- what was found for the jobs so far was reported
abbrev pub invariant-loop-job : goal.invariant-loop-job
invariant-loop-job g l = record {
  leads : LeadsOn (g.F.Findings.found l.fn.findings) (g.F.Findings.found l.findings) l.fn.so_far l.so_far l.jobs (drop l.job-index l.jobs);
  number : l.so_far.number ≡ l.fn.so_far.number + l.job-index;
  bounded : l.so_far.offset ≤ 2 ^ 32 * l.so_far.number;
  damaged : l.so_far.damaged ≤ l.so_far.number;
}
