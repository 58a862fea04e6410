use Rattle.std.proofs.Common.{◌≡◌, ◌<◌, ◌≤◌, ℕ, get_or}
use Rattle.ls_archive.specs.declared.checking.batches.Listed.{Listed}
use Rattle.ls_archive.specs.View.Batches.{IsLookedAt}
use Rattle.ls_archive.proofs.checking.looking.AloneLooking.look_at_all.Given as goal

-- the jobs so far were looked at, and the others are as they were
abbrev pub invariant-loop-job : goal.invariant-loop-job
invariant-loop-job l = record {
  looked : (i : ℕ) (d : Listed) → i < l.job-index → IsLookedAt (get_or l.fn.jobs.items i d) (get_or l.job-items i d);
  left : (i : ℕ) (d : Listed) → l.job-index ≤ i → get_or l.job-items i d ≡ get_or l.fn.jobs.items i d;
}
