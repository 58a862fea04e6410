use Rattle.std.proofs.Common.{◌≡◌, Bool, pos, sym, ap, ◌∙◌}
use Rattle.std.specs.Prelude.{unsigned_abs, int_lt}
use Rattle.ls_coding.specs.Contexts.{context_of}
use Rattle.ls_coding.specs.View.Mirrors.{mirror_image}
use Rattle.ls_coding.proofs.ContextLemmas.{signed_splits, context_through}
use Rattle.ls_coding.proofs.mirrored.mirror.Goals as goal

negative : (c : goal.After-mirror_image-2) → c.context_of_signed-context.result.negative ≡ (context_of c.args.presets.now c.args.neighbours.now).negative
negative c =
    c.context_of_signed-context.ensures.negative ∙ ap (λ z. int_lt z (pos 0)) (context_through _ _ c.signed_context.result c.signed_context.ensures.value)
    ∙ sym (signed_splits c.args.presets.now c.args.neighbours.now).1

pub returns-clause-value : goal.returns-clause-value
returns-clause-value c =
    let p = c.args.presets.now in
    let n = c.args.neighbours.now in
    record {
      samples = c.requires.samples;
      within = c.requires.sample;
      context_is = c.context_of_signed-context.ensures.number ∙ ap unsigned_abs (context_through _ _ c.signed_context.result c.signed_context.ensures.value) ∙ sym (signed_splits p n).0;
      prediction_is = c.mirror_image.ensures ∙ ap (λ most. mirror_image most c.context_of_signed-context.result.negative c.median.result) c.maxval-maxval.ensures.value
          ∙ ap (λ (b : Bool). mirror_image p.maxval b c.median.result) (negative c) ∙ ap (mirror_image p.maxval (context_of p n).negative) c.median.ensures.value;
      sample_is = c.mirror_image-2.ensures ∙ ap (λ most. mirror_image most c.context_of_signed-context.result.negative c.args.sample) c.maxval-maxval.ensures.value
          ∙ ap (λ (b : Bool). mirror_image p.maxval b c.args.sample) (negative c);
    }
