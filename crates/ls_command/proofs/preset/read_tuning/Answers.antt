use Rattle.std.proofs.Common.{subst, sym}
use Rattle.ls_command.specs.View.Asked.{ReadsTuning}
use Rattle.ls_command.proofs.PresetLemmas.{second_missing, third_missing, reset_missing}
use Rattle.ls_command.proofs.preset.read_tuning.Goals as goal

pub returns-in_err-t2 : goal.returns-in_err-t2
returns-in_err-t2 c =
    subst (ReadsTuning c.args.text.now) (sym c.from_residual-in_err-t2.ensures)
    (second_missing c.args.text.now (c.in_ok-t1.t1, c.in_ok-t1.rest) c.in_ok-t1.ensures c.in_err-t2.ensures)

pub returns-in_err-t3 : goal.returns-in_err-t3
returns-in_err-t3 c =
    subst (ReadsTuning c.args.text.now) (sym c.from_residual-in_err-t3.ensures)
    (third_missing c.args.text.now (c.in_ok-t1.t1, c.in_ok-t1.rest) c.in_ok-t1.ensures (c.in_ok-t2.t2, c.in_ok-t2.rest) c.in_ok-t2.ensures c.in_err-t3.ensures)

pub returns-in_err-reset : goal.returns-in_err-reset
returns-in_err-reset c =
    subst (ReadsTuning c.args.text.now) (sym c.from_residual-in_err-reset.ensures)
    (reset_missing c.args.text.now (c.in_ok-t1.t1, c.in_ok-t1.rest) c.in_ok-t1.ensures (c.in_ok-t2.t2, c.in_ok-t2.rest) c.in_ok-t2.ensures (c.in_ok-t3.t3, c.in_ok-t3.rest)
    c.in_ok-t3.ensures c.in_err-reset.ensures)
