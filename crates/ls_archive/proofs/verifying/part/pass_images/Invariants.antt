use Rattle.std.proofs.Common.{◌≡◌}
use Rattle.ls_archive.specs.View.VerifiedParts.{GaveImages}
use Rattle.ls_archive.proofs.verifying.part.pass_images.Given as goal

-- the images so far were read
abbrev pub invariant-loop-number : goal.invariant-loop-number
invariant-loop-number g l = record {
  images : GaveImages (g.F.Read.remaining l.fn.film) (g.F.Read.remaining l.film) l.number;
  reads : g.F.Feed.failed_reads l.film ≡ g.F.Feed.failed_reads l.fn.film;
}
