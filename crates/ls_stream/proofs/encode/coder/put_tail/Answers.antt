use Rattle.std.proofs.Common.{length-append, ap, length, arith}
use Rattle.ls_bits.specs.Bits.{bits_of}
use Rattle.ls_bits.proofs.BitLemmas.{length-bits_of}
use Rattle.ls_coding.specs.declared.run.Tail.{Tail}
use Rattle.ls_coding.specs.Runs.{tail_bits}
use Rattle.ls_stream.proofs.encode.coder.put_tail.Goals as goal

pub put-requires-in-Interrupted-2-clause-room : goal.put-requires-in-Interrupted-2-clause-room
put-requires-in-Interrupted-2-clause-room g c =
    omega (arith, ap (λ (t : Tail). length (tail_bits t)) c.in-Interrupted.is, ap length c.put-in-Interrupted.ensures.bits, length-append c.args.sink.now.bits (bits_of 1 0), length-bits_of c.in-Interrupted.width c.in-Interrupted.rest, length-bits_of 1 0)
