use Rattle.std.proofs.Common.{◌≡◌, ◌+◌, ◌-◌, ◌<◌, ◌∷◌, not, length, take, drop, sym, ap, ◌∙◌, arith, length-drop}
use Rattle.std.specs.List.{prefix_len}
use Rattle.std.proofs.lemmas.List.{take_all}
use Rattle.ls_replay.specs.StepsFile.{is_end}
use Rattle.ls_replay.specs.View.StepsReading.{lines_of}
use Rattle.ls_replay.proofs.StepsReadingLemmas.{line_and_rest, line_alone}
use Rattle.ls_replay.proofs.steps_file.next_line.Goals as goal

pub returns-then-end-text-clause-lines : goal.returns-then-end-text-clause-lines
returns-then-end-text-clause-lines c =
    let text = c.args.text.now in
    let n = c.line_at_front-end.result in
    let at : c.line_at_front-end.result ≡ prefix_len (λ b. not (is_end b)) c.args.text.now = c.line_at_front-end.ensures.value in
    let inside : prefix_len (λ b. not (is_end b)) c.args.text.now < length c.args.text.now = omega (arith, at, c.if-end-text.true) in
    let whole : take (length c.args.text.now - (c.line_at_front-end.result + 1)) (drop (c.line_at_front-end.result + 1) c.args.text.now) ≡ drop (c.line_at_front-end.result + 1) c.args.text.now =
    take_all (length text - (n + 1)) (drop (n + 1) text) (omega (arith, length-drop (n + 1) text)) in
    line_and_rest text inside ∙ ap (λ k. take k text ∷ lines_of (drop (k + 1) text)) (sym at) ∙ ap (λ rest. take n text ∷ lines_of rest) (sym whole)

pub returns-else-end-text-clause-lines : goal.returns-else-end-text-clause-lines
returns-else-end-text-clause-lines c =
    let at : c.line_at_front-end.result ≡ prefix_len (λ b. not (is_end b)) c.args.text.now = c.line_at_front-end.ensures.value in
    line_alone c.args.text.now (omega (arith, at, c.if-end-text.false))
