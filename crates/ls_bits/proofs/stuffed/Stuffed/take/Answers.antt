use Rattle.std.proofs.Common.{inr, ◌∙◌, arith}
use Rattle.ls_bits.proofs.WindowLemmas.{refilled}
use Rattle.ls_bits.proofs.StuffedLemmas.{thirty_two_taken, shifted_fits, rest_taken, no_more}
use Rattle.ls_bits.proofs.stuffed.Stuffed.take.Goals as goal

pub returns-then-self-ge32-clause-bits : goal.returns-then-self-ge32-clause-bits
returns-then-self-ge32-clause-bits c =
    refilled c.self.inside.word c.self.inside.held c.self.inside.after_ff c.self.inside.rest.now c.args.self.now c.refill.new.self c.refill.ensures.bits c.self.view_is
    ∙ thirty_two_taken c.self.inside.word c.self.inside.held c.low_bits-bits.result c.self.inside.after_ff c.self.inside.rest.now c.if-self-ge32.true c.low_bits-bits.ensures

pub overflow_cast-result : goal.overflow_cast-result
overflow_cast-result c = omega (arith, shifted_fits c.self.inside.word c.self.inside.held c.low_bits.result c.if-self-ge32.false c.low_bits.ensures)

pub returns-clause-bits : goal.returns-clause-bits
returns-clause-bits c =
    refilled c.self.inside.word c.self.inside.held c.self.inside.after_ff c.self.inside.rest.now c.args.self.now c.refill.new.self c.refill.ensures.bits c.self.view_is
    ∙ rest_taken c.self.inside.word c.self.inside.held c.low_bits.result c.self.inside.after_ff c.self.inside.rest.now c.if-self-ge32.false c.low_bits.ensures

pub returns-clause-all : goal.returns-clause-all
returns-clause-all c =
    inr (no_more c.self.inside.word c.self.inside.held c.self.inside.after_ff c.self.inside.rest.now c.refill.new.self c.if-self-ge32.false c.self.view_is c.refill.ensures.enough)

pub returns-clause-fits : goal.returns-clause-fits
returns-clause-fits c = shifted_fits c.self.inside.word c.self.inside.held c.low_bits.result c.if-self-ge32.false c.low_bits.ensures
