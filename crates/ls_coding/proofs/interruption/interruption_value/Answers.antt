use Rattle.std.proofs.Common.{rules}
use Rattle.ls_coding.proofs.interruption.interruption_value.Goals as goal

pub returns : goal.returns
returns c = search rules
