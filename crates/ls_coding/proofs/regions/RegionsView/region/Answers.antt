use Rattle.std.proofs.Common.{◌≡◌, ◌+◌, ◌-◌, ℤ, get_or, pos, ◌-ℤ◌, ap, sym, subst, ◌∙◌, arith}
use mir.Syntax.{w16}
use mir.Val.{to_z, of_z}
use Rattle.ls_frame.specs.Parameters.{Parameters, IsLegal}
use Rattle.ls_coding.specs.Contexts.{IsRegion, region}
use Rattle.ls_coding.proofs.ContextLemmas.{region_range, region_through, region_through_8, region_read}
use Rattle.ls_coding.proofs.regions.RegionsView.region.Goals as goal

abbrev looked_up : goal.After-from-4 → ℤ
looked_up c = get_or c.self.inside.table.now (c.from.result + c.from-2.result - c.from-3.result) (pos 0)

read : (c : goal.After-from-4) → looked_up c ≡ region c.args.self.now (pos c.args.over -ℤ pos c.args.other)
read c =
    let same : c.self.inside.presets ≡ c.args.self.now = c.self.view_is in
    region_read c.self.inside.presets c.self.inside.table.now c.args.over c.args.other (c.from.result + c.from-2.result - c.from-3.result) c.self.invariant
    (omega (arith, ap (λ (p : Parameters). p.maxval) same)) (omega (arith, ap (λ (p : Parameters). p.maxval) same)) (omega (arith, c.maxval.ensures.value))
    ∙ ap (λ p. region p (pos c.args.over -ℤ pos c.args.other)) same

is_region : (c : goal.After-from-4) → IsRegion (looked_up c)
is_region c = subst IsRegion (sym (read c)) (region_range c.args.self.now (pos c.args.over -ℤ pos c.args.other))

whole : (c : goal.After-from-4) → to_z w16 (of_z w16 c.from-4.result) ≡ looked_up c
whole c = ap (λ z. to_z w16 (of_z w16 z)) (c.from-4.ensures ∙ region_through_8 (looked_up c) (is_region c)) ∙ region_through (looked_up c) (is_region c)

pub returns-clause-value : goal.returns-clause-value
returns-clause-value c = whole c ∙ read c

pub returns-clause-region : goal.returns-clause-region
returns-clause-region c = subst IsRegion (sym (whole c)) (is_region c)

pub returns-clause-legal : goal.returns-clause-legal
returns-clause-legal c = subst IsLegal c.self.view_is c.self.invariant.legal
