use Rattle.std.proofs.Common.{◌≡◌, ◌-◌, ◌<◌, ◌≤◌, ◌++◌, Ok, Err, length, take, sym, ap, subst, ◌∙◌, arith, rules}
use Rattle.std.proofs.lemmas.List.{length-append}
use Rattle.std.proofs.lemmas.Result.{err_from_is_err_and}
use Rattle.ls_frame.specs.View.Known.{known}
use Rattle.ls_frame.specs.View.Reading.{samples_of, byte_count}
use Rattle.ls_frame.proofs.RasterLemmas.{part-few, part-less, part-last, left-by_len, chunks-more, chunks-over, chunks-end, chunks-all, are_within-append}
use Rattle.ls_frame.proofs.netpbm.raster.read_samples.Goals as goal

pub returns-in_err-filled-clause-bytes : goal.returns-in_err-filled-clause-bytes
returns-in_err-filled-clause-bytes g c = λ told.
    let p = err_from_is_err_and c.from_residual.result c.from_residual.ensures.1 in
    let before = c.chunks.invariant.said told in
    rw (p.1, p.2) (λ blamed.
    let end = c.in_err-filled.ensures.bytes before.0 blamed in
    chunks-end c.args.wide c.args.maxval c.args.count c.chunks.held c.chunks.samples.items c.chunks.chunk _ _ before.1 end.1
    (omega (arith, c.chunks.samples.ok.0)) c.chunks.invariant.held c.chunks.invariant.narrow
    ∙ ap Err (sym end.0))

pub take_samples-requires : goal.take_samples-requires
take_samples-requires g c =
    let left = left-by_len c.args.wide c.args.count c.len-in-chunks.result c.chunks.samples.items (c.len-in-chunks.ensures ∙ c.chunks.samples.ok.0) in
    let few = part-few c.args.wide c.feed_after.new.chunk c.in_ok-filled.filled (c.args.count - length c.chunks.samples.items)
    (omega (arith, c.in_ok-filled.ensures.within)) (omega (arith, c.in_ok-filled.ensures.within, left)) in
    omega (arith, c.chunks.samples.ok.0, few)

pub returns-in_err-take_samples-clause-bytes : goal.returns-in_err-take_samples-clause-bytes
returns-in_err-take_samples-clause-bytes g c = λ told.
    let p = err_from_is_err_and c.from_residual-in_err-take_samples.result c.from_residual-in_err-take_samples.ensures.1 in
    let before = c.chunks.invariant.said told in
    let read = c.in_ok-filled.ensures.bytes before.0 in
    let left = left-by_len c.args.wide c.args.count c.len-in-chunks.result c.chunks.samples.items (c.len-in-chunks.ensures ∙ c.chunks.samples.ok.0) in
    let few = part-few c.args.wide c.feed_after.new.chunk c.in_ok-filled.filled (c.args.count - length c.chunks.samples.items)
    (omega (arith, c.in_ok-filled.ensures.within)) (omega (arith, c.in_ok-filled.ensures.within, left)) in
    rw (p.1, p.2) (λ blamed.
    let over = c.in_err-take_samples.ensures.over in
    chunks-over c.args.wide c.args.maxval c.args.count c.chunks.samples.items _ _ _ _ before.1 read.1 over.1 few
    ∙ ap Err (sym over.0))

pub chunks-smaller : goal.chunks-smaller
chunks-smaller g c =
    let left = left-by_len c.args.wide c.args.count c.len-in-chunks.result c.chunks.samples.items (c.len-in-chunks.ensures ∙ c.chunks.samples.ok.0) in
    let part = take c.in_ok-filled.filled c.feed_after.new.chunk in
    let less = part-less c.args.wide c.feed_after.new.chunk c.keep_begun-held.new.chunk c.in_ok-filled.filled (c.args.count - length c.chunks.samples.items) c.chunks.held c.keep_begun-held.result
    (omega (arith, c.in_ok-filled.ensures.within)) (omega (arith, c.in_ok-filled.ensures.within, left)) c.in_ok-filled.ensures.order
    (omega (arith, c.in_ok-filled.ensures.within, c.in_ok-filled.ensures.order)) c.keep_begun-held.ensures.kept in
    let after : c.args.count - length c.take_samples.new.samples.items ≡ (c.args.count - length c.chunks.samples.items) - length (samples_of c.args.wide part) =
    rw c.in_ok-take_samples.ensures.items (omega (arith, length-append c.chunks.samples.items (samples_of c.args.wide part))) in
    subst (λ n. byte_count c.args.wide n - c.keep_begun-held.result < byte_count c.args.wide (c.args.count - length c.chunks.samples.items) - c.chunks.held) (sym after) less

pub chunks-preserved : goal.chunks-preserved
chunks-preserved g c =
    let left = left-by_len c.args.wide c.args.count c.len-in-chunks.result c.chunks.samples.items (c.len-in-chunks.ensures ∙ c.chunks.samples.ok.0) in
    let few = part-few c.args.wide c.feed_after.new.chunk c.in_ok-filled.filled (c.args.count - length c.chunks.samples.items)
    (omega (arith, c.in_ok-filled.ensures.within)) (omega (arith, c.in_ok-filled.ensures.within, left)) in
    record {
      few = rw c.in_ok-take_samples.ensures.items (omega (arith, length-append c.chunks.samples.items (samples_of c.args.wide (take c.in_ok-filled.filled c.feed_after.new.chunk)), few, c.chunks.samples.ok.0));
      room = omega (arith, c.in_ok-take_samples.ensures.room);
      held = search rules;
      narrow = search rules;
      last = λ all.
          let after = length-append c.chunks.samples.items (samples_of c.args.wide (take c.in_ok-filled.filled c.feed_after.new.chunk)) in
          let none : c.args.count - length c.chunks.samples.items ≤ length (samples_of c.args.wide (take c.in_ok-filled.filled c.feed_after.new.chunk)) =
          omega (arith, after, ap length c.in_ok-take_samples.ensures.items, all) in
          part-last c.args.wide c.feed_after.new.chunk c.keep_begun-held.new.chunk c.in_ok-filled.filled (c.args.count - length c.chunks.samples.items) c.keep_begun-held.result
          (omega (arith, c.in_ok-filled.ensures.within)) (omega (arith, c.in_ok-filled.ensures.within, left))
          (omega (arith, c.in_ok-filled.ensures.within, c.in_ok-filled.ensures.order)) c.keep_begun-held.ensures.kept none;
      within = rw c.in_ok-take_samples.ensures.items (are_within-append c.args.maxval c.chunks.samples.items _ c.chunks.invariant.within c.in_ok-take_samples.ensures.within);
      failures = search rules;
      said = λ told.
          let before = c.chunks.invariant.said told in
          let read = c.in_ok-filled.ensures.bytes before.0 in (
            read.0,
            rw (c.in_ok-take_samples.ensures.items, c.keep_begun-held.ensures.kept)
                (chunks-more c.args.wide c.args.maxval c.args.count c.chunks.samples.items _ _ _ _ before.1 read.1 c.in_ok-take_samples.ensures.within few),
          );
    }

pub returns-clause-bytes : goal.returns-clause-bytes
returns-clause-bytes g c = λ told.
    let before = c.chunks.invariant.said told in
    let all : c.args.count ≤ length c.chunks.samples.items = omega (arith, c.chunks.samples.ok.0) in
    let none = c.chunks.invariant.last all in (
      before.0,
      chunks-all c.args.wide c.args.maxval c.args.count c.chunks.samples.items _ _ before.1 all
          ∙ ap (λ n. Ok (c.chunks.samples.items, take n c.chunks.chunk ++ known (g.R.Read.remaining c.chunks.reader))) none,
    )
