use Rattle.std.proofs.Common.{◌≡◌, ◌+◌, length, ap, ◌∙◌, arith, length-append}
use Rattle.ls_bits.specs.Bits.{bits_of}
use Rattle.ls_bits.proofs.BitLemmas.{length-bits_of}
use Rattle.ls_coding_tests.proofs.bits.testing.Filling.put.Goals as goal

pub invariant_of-self-clause-bits : goal.invariant_of-self-clause-bits
invariant_of-self-clause-bits g c =
    let size : length c.put.new.self.bits ≡ length c.args.self.now.sink.bits + length (bits_of c.args.count c.args.value) =
    ap length c.put.ensures.bits ∙ length-append _ _ in
    omega (arith, size, length-bits_of c.args.count c.args.value)
