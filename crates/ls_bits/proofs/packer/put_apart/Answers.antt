use Rattle.std.proofs.Common.{◌≡◌, ◌+◌, ◌-◌, ◌^◌, ◌<◌, ◌++◌, ap, ◌∙◌, arith}
use Rattle.ls_bits.specs.Bits.{bits_of}
use Rattle.ls_bits.proofs.PackingLemmas.{bits_of-wide}
use Rattle.ls_bits.proofs.packer.put_apart.Goals as goal

pub returns-then-count-gt32-clause-bits : goal.returns-then-count-gt32-clause-bits
returns-then-count-gt32-clause-bits g c =
    let small : c.args.value < 2 ^ 32 = omega arith in
    let size : c.args.count - 32 + 32 ≡ c.args.count = omega arith in
    c.append-then-count-gt32.ensures.bits
    ∙ ap (λ bits. bits ++ bits_of 32 c.args.value) (c.put_out_bytes-then-count-gt32.ensures.bits ∙ c.append.ensures.bits
    ∙ ap (λ bits. bits ++ bits_of (c.args.count - 32) 0) c.put_out_bytes.ensures.bits)
    ∙ bits_of-wide (c.args.count - 32) 32 c.args.value _ small
    ∙ ap (λ count. c.args.packer.bits ++ bits_of count c.args.value) size
