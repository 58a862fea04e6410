use Rattle.std.proofs.Common.{◌≡◌, pos, ◌-ℤ◌, ap, ◌∙◌, arith, rules}
use mir.Syntax.{w8}
use mir.Val.{to_z, of_z}
use Rattle.ls_coding.specs.Contexts.{region}
use Rattle.ls_coding.proofs.ContextLemmas.{region_range, region_through_8, set_more}
use Rattle.ls_coding.proofs.regions.fill_table.Goals as goal

pub loop-place-preserved : goal.loop-place-preserved
loop-place-preserved c =
    let p = c.args.presets in
    let here : to_z w8 (of_z w8 c.region_at.result) ≡ region p (pos c.loop-place.place -ℤ pos p.maxval) =
    ap (λ z. to_z w8 (of_z w8 z)) c.region_at.ensures ∙ region_through_8 _ (region_range p _)
    ∙ ap (λ m. region p (pos c.loop-place.place -ℤ pos m)) (c.from-maxval.ensures ∙ c.maxval.ensures.value) in
    record {
      whole = search rules;
      regions = set_more c.loop-place.table c.loop-place.place _ (λ j z. z ≡ region p (pos j -ℤ pos p.maxval)) (omega arith) here c.loop-place.invariant.regions;
    }
