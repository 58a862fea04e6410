use Rattle.std.proofs.Common.{◌≡◌, ◌+◌, ◌≤◌, ap, ◌∙◌, arith}
use Rattle.crossbeam_channel.specs.Claims.{view}
use Rattle.ls_recorder.specs.declared.lane.places.backs.BackView.{BackView}
use Rattle.ls_recorder.proofs.PlaceLemmas.{halves_joined, compares}
use Rattle.ls_recorder.proofs.lane.places.Places.compare.Goals as goal

pub absorb-requires-clause-rule : goal.absorb-requires-clause-rule
absorb-requires-clause-rule c = halves_joined _ _ _ _ (omega (arith, c.args.returns.half))

pub learn_as-requires-clause-rule : goal.learn_as-requires-clause-rule
learn_as-requires-clause-rule c =
    let both = ap (λ (v : BackView). v.shares) c.absorb.ensures.rule in
    compares _ _ (omega (arith, both, c.args.returns.half, c.args.self.half))

pub returns : goal.returns
returns c =
    let sent = ap (λ (v : BackView). v.sent) c.absorb.ensures.rule in
    let received = ap (λ (v : BackView). v.received) c.absorb.ensures.rule in
    omega (arith, sent, received, c.learn_as.ensures.rule.1, c.args.self.sends_none, c.args.self.counted, c.args.self.within, c.args.returns.counted)
