use Rattle.std.proofs.Common.{◌++◌, ◌∙◌, ap, arith}
use Rattle.ls_bits.specs.View.Plain.{Placed, bits_in}
use Rattle.ls_bits.proofs.PlainLemmas.{at_front}
use Rattle.ls_bits.proofs.source.BitSource.bring_to_front.Goals as goal

pub returns-clause-bits : goal.returns-clause-bits
returns-clause-bits c =
    ap (λ bits. bits ++ c.self.inside.stuffed.bits)
    (at_front c.self.inside.bytes c.move_to_front.new.bytes c.self.inside.place c.self.inside.end c.self.invariant.order (omega (arith, c.self.invariant.room, c.self.invariant.within))
    c.move_to_front.ensures.len c.move_to_front.ensures.moved)
    ∙ ap (λ (p : Placed). bits_in p) c.self.view_is
