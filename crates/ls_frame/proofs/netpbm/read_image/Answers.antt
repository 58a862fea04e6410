use Rattle.std.proofs.Common.{◌++◌, Err, refl, sym, ap, ◌∙◌, arith, rules}
use Rattle.std.proofs.lemmas.Result.{err_from_is_err_and}
use Rattle.ls_frame.proofs.ImageLaws.{heading_read, heading_needs_no_memory}
use Rattle.ls_frame.proofs.KnownLemmas.{known-consumed, one_byte}
use Rattle.ls_frame.specs.View.Known.{known}
use Rattle.ls_frame.proofs.RasterLemmas.{within-each}
use Rattle.ls_frame.proofs.netpbm.read_image.Goals as goal

pub from_parts-requires : goal.from_parts-requires
from_parts-requires g c = record {
  formed = record {
    some_width = c.in_ok-form.ensures.width;
    width = omega arith;
    some_height = c.in_ok-form.ensures.height;
    height = omega arith;
    some_maxval = c.in_ok-form.ensures.maxval;
    maxval = omega arith;
    few = c.in_ok-form.ensures.few;
    count = c.in_ok-samples.ensures.count;
  };
  each = within-each c.in_ok-form.form.maxval c.in_ok-samples.samples.items c.in_ok-samples.ensures.within;
}

pub returns-in_err-form-clause-memory : goal.returns-in_err-form-clause-memory
returns-in_err-form-clause-memory g c =
    let p = err_from_is_err_and c.from_residual.result c.from_residual.ensures.1 in
    rw (p.1, p.2) (λ memory told.
    let left = known-consumed _ _ _ told c.in-Ok.ensures.bytes.0 in
    absurd (heading_needs_no_memory _ _ (c.in_err-form.ensures.bytes left.0 (rw memory refl) ∙ ap Err memory)))

pub returns-in_err-samples-clause-memory : goal.returns-in_err-samples-clause-memory
returns-in_err-samples-clause-memory g c =
    let p = err_from_is_err_and c.from_residual-in_err-samples.result c.from_residual-in_err-samples.ensures.1 in
    rw (p.1, p.2) (λ memory told.
    let left = known-consumed _ _ _ told c.in-Ok.ensures.bytes.0 in
    let read = c.in_ok-form.ensures.bytes left.0 in
    let header = heading_read _ _ _ read.1 in
    let untouched = c.in_err-samples.ensures.memory memory in (
      rw untouched read.0,
      header.0,
      left.1
          ∙ ap (λ s. s ++ known (g.R.Read.remaining c.feed.new.self)) (one_byte c.feed.new.buf c.in-Ok.field-0 (search rules) (search rules))
          ∙ header.1
          ∙ ap (λ r. header.0 ++ known (g.R.Read.remaining r)) (sym untouched),
      header.2,
    ))
