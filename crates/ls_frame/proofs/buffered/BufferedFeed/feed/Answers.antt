use Rattle.std.proofs.Common.{◌≡◌, [], slice_range, take, drop, ap, arith}
use Rattle.std.proofs.KnownBytes.{prepend_known-nil}
use Rattle.ls_frame.proofs.buffered.BufferedFeed.feed.Goals as goal

pub returns-then-buf-ge-CHUNK-clause-bytes : goal.returns-then-buf-ge-CHUNK-clause-bytes
returns-then-buf-ge-CHUNK-clause-bytes g c =
    let now = c.args.self.now in
    let none : slice_range now.chunk.items now.start now.end ≡ [] = ap (λ n. take n (drop now.start now.chunk.items)) {y = 0} (omega (arith, c.if-self.true)) in
    rw (none, prepend_known-nil (g.R.Read.remaining now.inner), prepend_known-nil (g.R.Read.remaining c.feed.new.self)) c.feed.ensures.bytes
