use Rattle.std.proofs.Common.{length, take, ap, ◌∙◌, arith}
use Rattle.std.proofs.KnownBytes.{Appends-trans}
use Rattle.std.proofs.lemmas.List.{length-append}
use Rattle.std.proofs.lemmas.Result.{err_from_is_err_and}
use Rattle.ls_frame.specs.Netpbm.{is_wide}
use Rattle.ls_frame.specs.Canonical.{raster_bytes, canonical}
use Rattle.ls_frame.proofs.ChunkLemmas.{narrow-each, front-part, back-part, canonical-chunks}
use Rattle.ls_frame.proofs.netpbm.written.write_frame.Goals as goal

pub returns-in_err-written-clause-fault : goal.returns-in_err-written-clause-fault
returns-in_err-written-clause-fault g c =
    let p = err_from_is_err_and c.from_residual.result c.from_residual.ensures.1 in
    let f = c.args.frame.now in
    let whole = canonical-chunks f _ f.samples (is_wide f.maxval) c.put_heading-end.ensures.laid (λ i. is_wide f.maxval) (λ i. f.samples) in
    rw (p.1, p.2) (front-part (canonical f) _ (raster_bytes (is_wide f.maxval) f.samples) _ _ c.in_err-written.field-0.0.written whole c.in_err-written.ensures.part c.in_err-written.ensures.fault)

pub returns-in_err-written-clause-part : goal.returns-in_err-written-clause-part
returns-in_err-written-clause-part g c =
    let p = err_from_is_err_and c.from_residual.result c.from_residual.ensures.1 in
    let f = c.args.frame.now in
    let whole = ap length (canonical-chunks f _ f.samples (is_wide f.maxval) c.put_heading-end.ensures.laid (λ i. is_wide f.maxval) (λ i. f.samples)) in
    rw (p.1, p.2) (omega (
      arith,
      whole,
      c.in_err-written.ensures.part,
      length-append (take c.put_heading-end.result c.put_heading-end.new.chunk) (raster_bytes (is_wide f.maxval) f.samples),
    ))

pub write_samples-requires-clause-each : goal.write_samples-requires-clause-each
write_samples-requires-clause-each g c =
    narrow-each c.args.frame.now c.samples.result.now c.is_wide-wide.result c.samples.ensures.lawful (c.is_wide-wide.ensures ∙ ap is_wide c.maxval.ensures.value) c.samples.ensures.value

pub returns-in_err-write_samples-clause-fault : goal.returns-in_err-write_samples-clause-fault
returns-in_err-write_samples-clause-fault g c =
    let p = err_from_is_err_and c.from_residual-in_err-write_samples.result c.from_residual-in_err-write_samples.ensures.1 in
    let wide = c.is_wide-wide.ensures ∙ ap is_wide c.maxval.ensures.value in
    let whole = canonical-chunks c.args.frame.now _ c.samples.result.now c.is_wide-wide.result c.put_heading-end.ensures.laid wide c.samples.ensures.value in
    rw (p.1, p.2) (back-part (canonical c.args.frame.now) _ _ _ _ _ c.in_ok-written.written c.in_err-write_samples.field-0.0.written whole c.in_ok-written.ensures.count
    c.in_err-write_samples.ensures.after c.in_err-write_samples.ensures.part c.in_ok-written.ensures.ok c.in_err-write_samples.ensures.fault)

pub returns-in_err-write_samples-clause-part : goal.returns-in_err-write_samples-clause-part
returns-in_err-write_samples-clause-part g c =
    let p = err_from_is_err_and c.from_residual-in_err-write_samples.result c.from_residual-in_err-write_samples.ensures.1 in
    let wide = c.is_wide-wide.ensures ∙ ap is_wide c.maxval.ensures.value in
    let whole = ap length (canonical-chunks c.args.frame.now _ c.samples.result.now c.is_wide-wide.result c.put_heading-end.ensures.laid wide c.samples.ensures.value) in
    rw (p.1, p.2) (omega (
      arith,
      whole,
      c.in_ok-written.ensures.count,
      c.in_err-write_samples.ensures.part,
      length-append (take c.put_heading-end.result c.put_heading-end.new.chunk) (raster_bytes c.is_wide-wide.result c.samples.result.now),
    ))

pub returns-clause-ok : goal.returns-clause-ok
returns-clause-ok g c =
    let wide = c.is_wide-wide.ensures ∙ ap is_wide c.maxval.ensures.value in
    let whole = canonical-chunks c.args.frame.now _ c.samples.result.now c.is_wide-wide.result c.put_heading-end.ensures.laid wide c.samples.ensures.value in
    rw whole (Appends-trans _ _ _ _ _ c.in_ok-written.ensures.ok c.in_ok-write_samples.ensures.ok)
