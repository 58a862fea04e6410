use Rattle.std.proofs.Common.{◌≡◌, ◌≤◌, ◌-◌, ◌*◌, ◌^◌}
use Rattle.ls_archive.specs.View.Checks.{HasChecked}
use Rattle.ls_archive.proofs.checking.check_lines.Given as goal

-- the lines so far, and what was found for them
abbrev pub invariant-loop-so_far : goal.invariant-loop-so_far
invariant-loop-so_far g l = record {
  so_far : HasChecked l.fn.begun.number l.fn.begun.offset (g.I.Read.remaining l.fn.index) (g.I.Read.remaining l.index) (g.R.Read.remaining l.fn.recording) (g.R.Read.remaining l.recording)
      (g.F.Findings.found l.fn.findings) (g.F.Findings.found l.findings) l.so_far.number l.so_far.offset l.so_far.damaged;
  few : l.so_far.number ≤ l.fn.until.end;
  bounded : l.so_far.offset ≤ 2 ^ 32 * l.so_far.number;
  damaged : l.so_far.damaged ≤ l.so_far.number;
  index_reads : g.I.Feed.failed_reads l.index ≡ g.I.Feed.failed_reads l.fn.index;
  reads : g.R.Feed.failed_reads l.recording ≡ g.R.Feed.failed_reads l.fn.recording;
}

abbrev pub decreases-loop-so_far : goal.decreases-loop-so_far
decreases-loop-so_far g l = l.fn.until.end - l.so_far.number
