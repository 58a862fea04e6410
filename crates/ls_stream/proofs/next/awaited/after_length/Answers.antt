use Rattle.std.proofs.Common.{arith}
use Rattle.ls_stream.proofs.PlaceLemmas.{length_small}
use Rattle.ls_stream.proofs.next.awaited.after_length.Goals as goal

pub returns-then-length-lt2-clause-ends : goal.returns-then-length-lt2-clause-ends
returns-then-length-lt2-clause-ends c = length_small c.args.follows c.args.high c.args.low (omega (arith, c.if-length-lt2.true))
