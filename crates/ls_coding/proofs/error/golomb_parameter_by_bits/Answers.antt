use Rattle.std.proofs.Common.{arith}
use Rattle.ls_coding.proofs.GolombParameterLemmas.{found_above, found_here}
use Rattle.ls_coding.proofs.error.golomb_parameter_by_bits.Goals as goal

pub returns-then-n-k : goal.returns-then-n-k
returns-then-n-k c = found_above c.args.n c.args.a c.saturating_sub-k.result c.requires.some (omega arith) c.requires.few c.saturating_sub-k.ensures c.if-n-k.true

pub returns-else-n-k : goal.returns-else-n-k
returns-else-n-k c = found_here c.args.n c.args.a c.saturating_sub-k.result c.requires.some (omega arith) c.requires.few c.saturating_sub-k.ensures c.if-n-k.false
