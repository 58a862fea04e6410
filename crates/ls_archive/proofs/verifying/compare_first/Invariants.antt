use Rattle.std.proofs.Common.{◌≡◌, ◌≤◌, ℕ, List, Option}
use Rattle.ls_frame.specs.View.Devices.{count_after}
use Rattle.ls_archive.specs.View.Verifying.{HaveRun}
use Rattle.ls_archive.proofs.verifying.compare_first.Given as goal

-- the frames so far were read of both, and are equal; the source stands after them
abbrev pub invariant-loop-number : goal.invariant-loop-number
invariant-loop-number g l = record {
  run : (begun : Option (List ℕ)) → g.S.Images.stands l.fn.source begun (g.R.Read.remaining l.fn.recording)
      → (place : Option (List ℕ)) × g.S.Images.stands l.source place (g.R.Read.remaining l.recording)
      × HaveRun (g.F.Read.remaining l.fn.film) (g.F.Read.remaining l.film) begun place l.number;
  few : l.number ≤ l.fn.most;
  film_reads : g.F.Feed.failed_reads l.film ≡ g.F.Feed.failed_reads l.fn.film;
  recording_reads : (failed : ℕ) → g.R.Feed.failed_reads l.fn.recording ≡ count_after (g.S.Images.owes l.fn.source) failed
      → g.R.Feed.failed_reads l.recording ≡ count_after (g.S.Images.owes l.source) failed;
}
