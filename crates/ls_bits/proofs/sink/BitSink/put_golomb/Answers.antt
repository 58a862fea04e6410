use Rattle.std.proofs.Common.{arith}
use Rattle.ls_bits.proofs.GolombLemmas.{length-code_word}
use Rattle.ls_bits.proofs.sink.BitSink.put_golomb.Goals as goal

pub put_golomb-requires-clause-room : goal.put_golomb-requires-clause-room
put_golomb-requires-clause-room c =
    omega (arith, length-code_word c.args.k c.args.glimit c.args.qbpp c.args.v c.requires.code, c.requires.code.small_glimit, c.in_ok-reserve.ensures.room)
