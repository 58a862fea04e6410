use Rattle.std.proofs.Common.{◌+◌, take, arith, rules}
use Rattle.std.proofs.KnownBytes.{Appends-nil, Appends-trans}
use Rattle.std.proofs.lemmas.List.{length-append}
use Rattle.std.proofs.lemmas.Result.{err_from_is_err_and}
use Rattle.ls_frame.specs.Canonical.{raster_bytes}
use Rattle.ls_frame.proofs.ChunkLemmas.{raster_bytes-nil, length-raster_bytes, samples-more, samples-few, samples-part}
use Rattle.ls_frame.proofs.netpbm.written.write_samples.Goals as goal

pub chunks-init : goal.chunks-init
chunks-init g c = rw (raster_bytes-nil c.args.wide) (record {
  within = omega arith;
  out = Appends-nil (g.W.Write.contents c.args.writer.now);
  count = omega arith;
  failures = search rules;
})

pub write_chunk-requires : goal.write_chunk-requires
write_chunk-requires g c =
    let few = samples-few c.args.wide c.args.samples.now _ c.chunks.done (c.chunks.done + c.min.result) c.put_samples-filled.ensures.laid in
    omega (arith, few, c.chunks.invariant.count, length-raster_bytes c.args.wide c.args.samples.now, c.requires.few)

pub returns-in_err-written-clause-fault : goal.returns-in_err-written-clause-fault
returns-in_err-written-clause-fault g c =
    let p = err_from_is_err_and c.from_residual.result c.from_residual.ensures.1 in
    rw (p.1, p.2) (samples-part c.args.wide c.args.samples.now _ c.chunks.done (c.chunks.done + c.min.result) _ _ _ c.args.before c.chunks.written c.in_err-written.field-0.0.written
    c.put_samples-filled.ensures.laid c.chunks.invariant.count c.in_err-written.ensures.after c.in_err-written.ensures.part c.chunks.invariant.out c.in_err-written.ensures.fault)

pub returns-in_err-written-clause-part : goal.returns-in_err-written-clause-part
returns-in_err-written-clause-part g c =
    let p = err_from_is_err_and c.from_residual.result c.from_residual.ensures.1 in
    let few = samples-few c.args.wide c.args.samples.now _ c.chunks.done (c.chunks.done + c.min.result) c.put_samples-filled.ensures.laid in
    rw (p.1, p.2) (omega (arith, few, c.chunks.invariant.count, c.in_err-written.ensures.part))

pub chunks-preserved : goal.chunks-preserved
chunks-preserved g c =
    let more = samples-more c.args.wide c.args.samples.now _ c.chunks.done (c.chunks.done + c.min.result) (omega arith) c.put_samples-filled.ensures.laid in
    let out = Appends-trans _ _ _ _ _ c.chunks.invariant.out c.in_ok-written.ensures.ok in
    record {
      within = omega arith;
      out = rw more out;
      count = rw more (omega (
        arith,
        c.in_ok-written.ensures.count,
        c.chunks.invariant.count,
        length-append (raster_bytes c.args.wide (take c.chunks.done c.args.samples.now)) (take c.put_samples-filled.result c.put_samples-filled.new.chunk),
      ));
      failures = search rules;
    }
