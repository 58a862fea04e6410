use Rattle.std.proofs.Common.{◌≡◌, ◌+◌, ◌*◌, get_or, ap, ◌∙◌, arith}
use Rattle.ls_bits.specs.View.Packing.{BitsLeft}
use Rattle.ls_bits.proofs.WindowLemmas.{four_in_after}
use Rattle.ls_bits.proofs.stuffed.Stuffed.refill.Goals as goal

pub returns-clause-bits : goal.returns-clause-bits
returns-clause-bits c =
    let four : c.from.result ≡ ((get_or c.self.inside.rest.now 0 0 * 256 + get_or c.self.inside.rest.now 1 0) * 256 + get_or c.self.inside.rest.now 2 0) * 256
    + get_or c.self.inside.rest.now 3 0 = omega (arith, c.from_be_bytes-four.ensures, c.from.ensures) in
    (four_in_after c.self.inside.word c.self.inside.held c.from.result c.self.inside.after_ff c.self.inside.rest.now c.if-not-self.true
    c.in-len4-up.len_at_least c.self.invariant c.if-first.true c.if-second.true c.if-third.true c.if-fourth.true (omega arith) four).left
    ∙ ap (λ (w : BitsLeft). w.bits) c.self.view_is
