use Rattle.std.proofs.Common.{◌∙◌, ap, sym, arith}
use Rattle.ls_bits.specs.View.Packing.{BitsLeft}
use Rattle.ls_bits.proofs.StuffedLemmas.{eight_in}
use Rattle.ls_bits.proofs.stuffed.Stuffed.take_eight.Goals as goal

pub invariant_of-self : goal.invariant_of-self
invariant_of-self c =
    (eight_in c.self.inside.word c.self.inside.held c.with_bits-bits.result c.from_be_bytes-eight.result c.self.inside.after_ff c.self.inside.rest.now c.if-self.false c.in-len8-up.len_at_least
    c.self.invariant (c.has_ff.ensures c.if-has_ff.false) (omega (arith, c.from_be_bytes-eight.ensures)) c.with_bits-bits.ensures).1

pub returns-clause-some : goal.returns-clause-some
returns-clause-some c =
    sym (ap (λ (w : BitsLeft). w.bits) c.self.view_is)
    ∙ (eight_in c.self.inside.word c.self.inside.held c.with_bits-bits.result c.from_be_bytes-eight.result c.self.inside.after_ff c.self.inside.rest.now c.if-self.false c.in-len8-up.len_at_least
    c.self.invariant (c.has_ff.ensures c.if-has_ff.false) (omega (arith, c.from_be_bytes-eight.ensures)) c.with_bits-bits.ensures).0
