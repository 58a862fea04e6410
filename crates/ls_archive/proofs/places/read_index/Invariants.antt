use Rattle.std.proofs.Common.{◌≡◌, ◌≤◌, ◌*◌, ◌^◌}
use Rattle.ls_archive.proofs.PlaceLemmas.{HasReadLines}
use Rattle.ls_archive.proofs.places.read_index.Given as goal

-- the lines so far, each codestream's size at most that of a codestream; and no read has failed
abbrev pub invariant-loop-number : goal.invariant-loop-number
invariant-loop-number g l = record {
  so_far : HasReadLines (g.I.Read.remaining l.fn.index) (g.I.Read.remaining l.index) l.number l.offset l.wanted.items;
  bounded : l.offset ≤ 2 ^ 32 * l.number;
  reads : g.I.Feed.failed_reads l.index ≡ g.I.Feed.failed_reads l.fn.index;
}
