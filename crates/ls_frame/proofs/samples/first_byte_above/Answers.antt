use Rattle.std.proofs.Common.{sym, arith}
use Rattle.ls_frame.proofs.SampleLemmas.{none_above_greatest}
use Rattle.ls_frame.proofs.samples.first_byte_above.Goals as goal

pub returns-then-from-maxval : goal.returns-then-from-maxval
returns-then-from-maxval c = sym (none_above_greatest c.args.maxval c.args.bytes.now (omega arith))
