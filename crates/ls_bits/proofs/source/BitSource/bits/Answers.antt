use Rattle.std.proofs.Common.{◌++◌, ◌∙◌, ap, sym, arith}
use Rattle.ls_bits.specs.Bits.{bits_of}
use Rattle.ls_bits.specs.View.Plain.{bits_in}
use Rattle.ls_bits.proofs.PlainLemmas.{number_begun}
use Rattle.ls_bits.proofs.source.BitSource.bits.Goals as goal

pub returns-clause-ok : goal.returns-clause-ok
returns-clause-ok c =
    sym c.refill.ensures.bits
    ∙ number_begun c.front.result c.args.count c.low_bits-value.result (bits_in c.refill.new.self) c.requires c.low_bits-value.ensures
    (c.front.ensures c.args.count (omega (arith, c.requires)) (omega (arith, c.if-held-count.false, c.held.ensures.value)))
    ∙ ap (λ bits. bits_of c.args.count c.low_bits-value.result ++ bits) (sym c.skip.ensures)
