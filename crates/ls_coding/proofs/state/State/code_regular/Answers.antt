use Rattle.std.proofs.Common.{ap, subst}
use Rattle.ls_frame.specs.Parameters.{Parameters}
use Rattle.ls_coding.specs.View.States.{Coding}
use Rattle.ls_coding.specs.View.Mirrors.{IsMirrored}
use Rattle.ls_coding.proofs.MirrorLemmas.{may_code}
use Rattle.ls_coding.proofs.state.State.code_regular.Goals as goal

pub code_regular_at-requires : goal.code_regular_at-requires
code_regular_at-requires c =
    let same = ap (λ (t : Coding). t.parameters) c.self.view_is in
    record {
      may = may_code c.args.self.now c.args.neighbours.now c.args.sample c.mirror-mirrored.result c.requires.may.uninterrupted
          (subst (λ (p : Parameters). IsMirrored p c.args.neighbours.now c.args.sample c.mirror-mirrored.result) same c.mirror-mirrored.ensures.value);
    }

pub returns-clause-events : goal.returns-clause-events
returns-clause-events c =
    let same = ap (λ (t : Coding). t.parameters) c.self.view_is in
    c.code_regular_at.ensures.events c.args.neighbours.now c.args.sample
    (subst (λ (p : Parameters). IsMirrored p c.args.neighbours.now c.args.sample c.mirror-mirrored.result) same c.mirror-mirrored.ensures.value)
