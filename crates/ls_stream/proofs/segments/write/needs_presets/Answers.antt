use Rattle.std.proofs.Common.{◌-◌, ◌^◌, ap, ◌∙◌}
use Rattle.std.specs.Prelude.{not}
use Rattle.ls_frame.specs.Parameters.{Parameters, default_parameters}
use Rattle.ls_stream.specs.Layout.{same_parameters, needs_presets}
use Rattle.ls_stream.proofs.segments.write.needs_presets.Goals as goal

pub returns : goal.returns
unfolding needs_presets
returns c =
    c.ne.ensures
    ∙ ap (λ (p : Parameters). not (same_parameters c.args.presets.now p))
    (c.default_of.ensures.value ∙ ap default_parameters (c.greatest_maxval.ensures.value ∙ ap (λ n. 2 ^ n - 1) c.bpp.ensures.value))
