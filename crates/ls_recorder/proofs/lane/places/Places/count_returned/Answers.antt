use Rattle.std.proofs.Common.{rules, ◌≡◌, ◌+◌, ap, ◌∙◌, arith}
use Rattle.ls_recorder.specs.declared.lane.places.backs.BackView.{BackView}
use Rattle.crossbeam_channel.specs.Claims.{view}
use Rattle.ls_recorder.specs.declared.lane.places.backs.Back.{Back}
use Rattle.ls_recorder.specs.View.Backs.{places_in}
use Rattle.ls_recorder.proofs.PlaceLemmas.{receives}
use Rattle.ls_recorder.proofs.lane.places.Places.count_returned.Goals as goal

pub try_recv_as-requires-clause-rule : goal.try_recv_as-requires-clause-rule
try_recv_as-requires-clause-rule g c = (receives _ _ (omega (arith, c.loop.invariant.half)), λ items views k at. tt)

pub invariant_of-self : goal.invariant_of-self
invariant_of-self g c =
    let inv = c.loop.invariant in
    let rule = c.in-Ok-Places.ensures.rule in
    let received : (view c.try_recv_as.new.pass).received ≡ (view c.loop.self.pass).received + c.in-Ok-Places.places =
    ap (λ (v : BackView). v.received) rule ∙ ap (λ (m : Back). (view c.loop.self.pass).received + places_in m) c.in-Ok-Places.field-0-is in
    record {
      own = search rules;
      half = ap (λ (v : BackView). v.shares) rule ∙ inv.half;
      sends_none = ap (λ (v : BackView). v.sent) rule ∙ inv.sends_none;
      counted = omega (arith, received, inv.counted, c.with_more-self.ensures.most);
      within = omega (arith, inv.within, c.with_more-self.ensures.least);
    }
