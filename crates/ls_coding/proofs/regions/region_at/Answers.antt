use Rattle.std.proofs.Common.{ap, ◌∙◌}
use mir.Syntax.{w8}
use mir.Val.{to_z, of_z}
use Rattle.ls_coding.specs.Contexts.{region}
use Rattle.ls_coding.proofs.ContextLemmas.{region_through, region_through_8, apart}
use Rattle.ls_coding.proofs.regions.region_at.Goals as goal

pub returns : goal.returns
returns c =
    ap (λ z. to_z w8 (of_z w8 z)) (region_through c.region_of.result c.region_of.ensures.region) ∙ region_through_8 c.region_of.result c.region_of.ensures.region
    ∙ c.region_of.ensures.value
    ∙ ap (region c.args.presets) (apart c.args.place c.args.maxval c.saturating_sub-over.result c.saturating_sub-under.result c.saturating_sub-over.ensures c.saturating_sub-under.ensures)
