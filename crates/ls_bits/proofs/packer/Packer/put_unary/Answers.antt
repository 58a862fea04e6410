use Rattle.std.proofs.Common.{◌+◌, ◌^◌, ◌<◌, ◌++◌, ℕ, ap, sym, subst, ◌∙◌}
use Rattle.ls_bits.specs.Bits.{bits_of}
use Rattle.ls_bits.proofs.PackingLemmas.{word_at_once, tail-lt}
use Rattle.ls_bits.proofs.packer.Packer.put_unary.Goals as goal

pub put-requires-clause-value : goal.put-requires-clause-value
put-requires-clause-value g c =
    subst (λ (n : ℕ). n < 2 ^ (c.args.zeros + 1 + c.args.count)) (sym c.led_by_one.ensures) (tail-lt c.args.zeros c.args.count c.args.rest c.requires.rest)

pub returns-clause-bits : goal.returns-clause-bits
returns-clause-bits g c =
    c.put.ensures.bits
    ∙ ap (λ tail. c.args.self.now.bits ++ bits_of (c.args.zeros + 1 + c.args.count) tail) c.led_by_one.ensures
    ∙ word_at_once _ c.args.zeros c.args.count c.args.rest c.requires.rest
