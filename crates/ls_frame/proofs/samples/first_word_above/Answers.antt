use Rattle.std.proofs.Common.{sym, arith}
use Rattle.ls_frame.proofs.SampleLemmas.{none_above_greatest}
use Rattle.ls_frame.proofs.samples.first_word_above.Goals as goal

pub returns-then-greatest_word-maxval : goal.returns-then-greatest_word-maxval
returns-then-greatest_word-maxval c = sym (none_above_greatest c.args.maxval c.args.words.now (omega arith))
