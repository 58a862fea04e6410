use Rattle.std.proofs.Common.{◌≡◌, ◌∙◌, ◌+◌, ◌<◌, ◌≤◌, length, sym, ap, subst}
use Rattle.ls_frame.specs.Picture.{Picture, picture_of, components}
use Rattle.ls_frame.specs.View.Numbers.{numbers}
use Rattle.ls_stream.specs.declared.arranged.Area.{Area}
use Rattle.ls_stream.specs.Components.{arranged}
use Rattle.ls_stream.specs.View.Arrangements.{area_of, IsComponentOf}
use Rattle.ls_stream.proofs.ArrangedLemmas.{area_fits, component_is, part_of, view_in}
use Rattle.ls_stream.proofs.arranged.ArrangedView.component.Goals as goal

pub part-requires : goal.part-requires
part-requires c =
    let inside = subst (λ (f : Picture). c.args.component < components f.kind) (sym c.self.view_is) c.requires in
    subst (λ (area : Area). area.start + area.count ≤ length (numbers c.self.inside.samples)) (sym c.area_of-area.ensures)
    (area_fits c.self.inside.arrangement c.self.inside.form (numbers c.self.inside.samples) c.shape_of-shape.result c.args.component c.self.invariant
    c.shape_of-shape.ensures.width c.shape_of-shape.ensures.height c.shape_of-shape.ensures.count inside)

pub returns : goal.returns
returns c =
    let form = c.self.inside.form in
    let samples = numbers c.self.inside.samples in
    let shape = c.shape_of-shape.result in
    let inside = subst (λ (f : Picture). c.args.component < components f.kind) (sym c.self.view_is) c.requires in
    let part_is = c.part.ensures ∙ ap (λ (area : Area). part_of area samples) c.area_of-area.ensures in
    subst (λ (f : Picture). IsComponentOf f c.args.component (view_in shape c.area_of-area.result c.part.result)) c.self.view_is
    (subst (λ (area : Area). IsComponentOf (picture_of form (arranged c.self.inside.arrangement (components form.kind) samples)) c.args.component (view_in shape area c.part.result)) (sym c.area_of-area.ensures)
    (component_is c.self.inside.arrangement form samples c.part.result shape c.args.component c.self.invariant
    c.shape_of-shape.ensures.width c.shape_of-shape.ensures.height c.shape_of-shape.ensures.count inside part_is))
