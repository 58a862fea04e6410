use Rattle.std.proofs.Common.{◌-◌, ◌++◌, take, sym, ap, ◌∙◌, arith, append_assoc}
use borrow.Rule.Slice.PartMut.{post_of}
use Rattle.ls_frame.specs.View.Known.{known}
use Rattle.ls_frame.proofs.KnownLemmas.{known-consumed, chunk-read}
use Rattle.ls_frame.proofs.netpbm.raster.feed_after.Goals as goal

pub returns-in-Ok-clause-bytes : goal.returns-in-Ok-clause-bytes
returns-in-Ok-clause-bytes g c = λ told.
    let chunk = c.args.chunk.now in
    let held = c.args.held in
    let left = known-consumed _ _ _ told c.in-Ok.ensures.bytes.0 in
    let front = chunk-read chunk c.feed.new.buf (post_of held (c.args.end - held) chunk) held c.in-Ok.given (omega arith) (omega (arith, c.in-Ok.ensures.bound.0)) in (
      left.0,
      ap (λ s. take held chunk ++ s) left.1
          ∙ sym (append_assoc (take held chunk) (take c.in-Ok.given c.feed.new.buf) (known (g.R.Read.remaining c.feed.new.self)))
          ∙ ap (λ s. s ++ known (g.R.Read.remaining c.feed.new.self)) (sym front),
    )
