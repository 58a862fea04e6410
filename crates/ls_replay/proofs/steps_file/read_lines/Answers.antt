use Rattle.std.proofs.Common.{rules, ◌≡◌, ◌+◌, length, ap, ◌∙◌, arith}
use Rattle.ls_replay.specs.View.StepsReading.{with_front, steps_from, lines_after, left_in}
use Rattle.ls_replay.proofs.StepsReadingLemmas.{steps_from-step}
use Rattle.ls_replay.proofs.steps_file.read_lines.Goals as goal

pub loop-rest-preserved : goal.loop-rest-preserved
loop-rest-preserved c =
    let before = c.loop-rest.steps.items in
    let n = c.loop-rest.number + 1 in
    let split = c.loop-rest.invariant.steps ∙ ap (λ r. with_front before (steps_from n (lines_after r))) c.in-Some.is ∙ ap (λ lines. with_front before (steps_from n lines)) c.next_line.ensures.lines in
    let fewer : left_in c.loop-rest.rest ≡ length c.in-Some.here.now + 1 = ap left_in c.in-Some.is in
    record {
      steps = steps_from-step _ before _ n c.next_line.result.0.now (lines_after c.next_line.result.1) c.in-Step.step split c.in-Step.ensures (search rules);
      few = omega (arith, fewer, c.loop-rest.invariant.few, c.next_line.ensures.shorter);
    }
