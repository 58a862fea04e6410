use Rattle.ls_c.proofs.TextLemmas.{text_none}
use Rattle.ls_c.proofs.text.print.Goals as goal

pub returns-clause-no_zero : goal.returns-clause-no_zero
returns-clause-no_zero c = text_none c.args.status c.args.fault.now
