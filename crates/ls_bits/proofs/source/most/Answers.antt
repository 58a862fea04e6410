use Rattle.std.proofs.Common.{arith}
use Rattle.std.proofs.lemmas.Nat.{one_shl}
use Rattle.ls_bits.proofs.source.most.Goals as goal

pub returns : goal.returns
returns c = one_shl c.args.qbpp 32 (omega arith)
