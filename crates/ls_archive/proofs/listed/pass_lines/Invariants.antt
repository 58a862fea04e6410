use Rattle.std.proofs.Common.{◌≡◌, ◌*◌, ◌^◌, ◌≤◌}
use Rattle.ls_archive.specs.View.Listed.{HasPassed}
use Rattle.ls_archive.proofs.listed.pass_lines.Given as goal

-- the lines so far were passed over
abbrev pub invariant-loop-number : goal.invariant-loop-number
invariant-loop-number g l = record {
  passed : HasPassed (g.I.Read.remaining l.fn.index) (g.I.Read.remaining l.index) l.number l.offset;
  bounded : l.offset ≤ 2 ^ 32 * l.number;
  reads : g.I.Feed.failed_reads l.index ≡ g.I.Feed.failed_reads l.fn.index;
}
