use Rattle.std.proofs.Common.{Some, None, subst, sym, arith}
use Rattle.std.proofs.lemmas.Str.Pattern.{strip_prefix_char}
use Rattle.ls_command.specs.Values.{point}
use Rattle.ls_command.specs.View.Asked.{ReadsFrames}
use Rattle.ls_command.proofs.NumberLemmas.{uncut, cut_first}
use Rattle.ls_command.proofs.FramesLemmas.{one_none, one_point, two_points}
use Rattle.ls_command.proofs.frames.read_frames.Goals as goal

pub returns-in_err-strip_prefix-in-Some : goal.returns-in_err-strip_prefix-in-Some
returns-in_err-strip_prefix-in-Some c =
    let cut = cut_first point c.args.text.now (omega arith) (c.in-Some.first, c.in-Some.rest) c.in-Some.ensures.cases in
    subst (ReadsFrames c.args.text.now) (sym c.from_residual.ensures)
    (one_point c.args.text.now c.in-Some.first.now c.in-Some.rest.now cut.0 cut.1
    (strip_prefix_char point c.in-Some.rest.now None c.in_err-strip_prefix-in-Some.ensures.cases (omega arith)))

pub returns-in_err-first-in-None : goal.returns-in_err-first-in-None
returns-in_err-first-in-None c =
    subst (ReadsFrames c.args.text.now) (sym c.from_residual-in_err-first-in-None.ensures)
    (one_none c.args.text.now (uncut point c.args.text.now (omega arith) c.in-None.ensures.cases) c.in_err-first-in-None.ensures)

pub returns-in_ok-strip_prefix-in-Some : goal.returns-in_ok-strip_prefix-in-Some
returns-in_ok-strip_prefix-in-Some c =
    let cut = cut_first point c.args.text.now (omega arith) (c.in-Some.first, c.in-Some.rest) c.in-Some.ensures.cases in
    two_points c.args.text.now c.in-Some.first.now c.in-Some.rest.now cut.0 cut.1 c.in_ok-strip_prefix-in-Some.field-0.now c.range.result
    (strip_prefix_char point c.in-Some.rest.now (Some c.in_ok-strip_prefix-in-Some.field-0) c.in_ok-strip_prefix-in-Some.ensures.cases (omega arith)) c.range.ensures
