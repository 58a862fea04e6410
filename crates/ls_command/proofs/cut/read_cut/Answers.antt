use Rattle.std.proofs.Common.{Some, None, subst, sym, arith}
use Rattle.std.proofs.lemmas.Str.Pattern.{strip_suffix_char}
use Rattle.ls_command.specs.Values.{letter_s}
use Rattle.ls_command.specs.View.Asked.{ReadsCut}
use Rattle.ls_command.proofs.CutLemmas.{seconds_none, seconds_some, frames_none, frames_some}
use Rattle.ls_command.proofs.cut.read_cut.Goals as goal

pub returns-in_err-some-in-Some : goal.returns-in_err-some-in-Some
returns-in_err-some-in-Some c =
    subst (ReadsCut c.args.text.now) (sym c.from_residual.ensures)
    (seconds_none c.args.text.now c.in-Some.seconds.now (strip_suffix_char letter_s c.args.text.now (Some c.in-Some.seconds) c.in-Some.ensures.cases (omega arith)) c.in_err-some-in-Some.ensures)

pub returns-in_err-some-in-None : goal.returns-in_err-some-in-None
returns-in_err-some-in-None c =
    subst (ReadsCut c.args.text.now) (sym c.from_residual-in_err-some-in-None.ensures)
    (frames_none c.args.text.now (strip_suffix_char letter_s c.args.text.now None c.in-None.ensures.cases (omega arith)) c.in_err-some-in-None.ensures)

pub returns-in_ok-some-in-Some : goal.returns-in_ok-some-in-Some
returns-in_ok-some-in-Some c =
    seconds_some c.args.text.now c.in-Some.seconds.now (strip_suffix_char letter_s c.args.text.now (Some c.in-Some.seconds) c.in-Some.ensures.cases (omega arith)) _ c.in_ok-some-in-Some.ensures

pub returns-in_ok-some-in-None : goal.returns-in_ok-some-in-None
returns-in_ok-some-in-None c =
    frames_some c.args.text.now (strip_suffix_char letter_s c.args.text.now None c.in-None.ensures.cases (omega arith)) _ c.in_ok-some-in-None.ensures
