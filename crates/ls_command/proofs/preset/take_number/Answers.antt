use Rattle.std.proofs.Common.{subst, sym, arith}
use Rattle.ls_command.specs.Values.{comma}
use Rattle.ls_command.specs.View.Asked.{TakesNumber}
use Rattle.ls_command.proofs.NumberLemmas.{uncut, cut_first}
use Rattle.ls_command.proofs.PresetLemmas.{no_comma, no_number}
use Rattle.ls_command.proofs.preset.take_number.Goals as goal

pub returns-in_err-number : goal.returns-in_err-number
returns-in_err-number c =
    subst (TakesNumber c.args.text.now) (sym c.from_residual.ensures) (no_comma c.args.text.now (uncut comma c.args.text.now (omega arith) c.in_err-number.ensures.cases))

pub returns-in_err-number_of : goal.returns-in_err-number_of
returns-in_err-number_of c =
    let cut = cut_first comma c.args.text.now (omega arith) (c.in_ok-number.number, c.in_ok-number.rest) c.in_ok-number.ensures.cases in
    subst (TakesNumber c.args.text.now) (sym c.from_residual-in_err-number_of.ensures)
    (no_number c.args.text.now c.in_ok-number.number.now c.in_ok-number.rest cut.0 cut.1 c.in_err-number_of.ensures)
