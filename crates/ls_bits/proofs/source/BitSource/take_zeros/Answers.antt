use Rattle.std.proofs.Common.{◌+◌, ◌∷◌, ◌++◌, ◌∙◌, true, ap, sym, length, length-append, arith}
use Rattle.ls_bits.specs.Bits.{zeros as zero_bits}
use Rattle.ls_bits.specs.View.Plain.{bits_in}
use Rattle.ls_bits.proofs.BitLemmas.{length-zeros}
use Rattle.ls_bits.proofs.PlainLemmas.{one_begun, zeros_begun}
use Rattle.ls_bits.proofs.WindowLemmas.{zeros-more, zeros-begin}
use Rattle.ls_bits.proofs.source.BitSource.take_zeros.Goals as goal

pub returns-then-count-most-clause-fault : goal.returns-then-count-most-clause-fault
returns-then-count-most-clause-fault c =
    zeros-begin (c.words.count + c.leading_zeros-zeros.result) c.args.most _ _
    (zeros-more c.words.count c.leading_zeros-zeros.result _ _ _ c.words.invariant.0
    (sym c.refill.ensures.bits
    ∙ one_begun c.front.result c.leading_zeros-zeros.result c.min-seen.result (bits_in c.refill.new.self) c.leading_zeros-zeros.ensures c.if-zeros-seen.true (omega arith)
    (c.front.ensures (c.leading_zeros-zeros.result + 1) (omega arith) (omega (arith, c.held.ensures.value)))))
    c.if-count-most.true

pub returns-then-zeros-seen-clause-ok : goal.returns-then-zeros-seen-clause-ok
returns-then-zeros-seen-clause-ok c =
    zeros-more c.words.count c.leading_zeros-zeros.result _ _ _ c.words.invariant.0
    (sym c.refill.ensures.bits
    ∙ one_begun c.front.result c.leading_zeros-zeros.result c.min-seen.result (bits_in c.refill.new.self) c.leading_zeros-zeros.ensures c.if-zeros-seen.true (omega arith)
    (c.front.ensures (c.leading_zeros-zeros.result + 1) (omega arith) (omega (arith, c.held.ensures.value)))
    ∙ ap (λ bits. zero_bits c.leading_zeros-zeros.result ++ true ∷ bits) (sym c.skip.ensures))

pub returns-then-count-most-2-clause-fault : goal.returns-then-count-most-2-clause-fault
returns-then-count-most-2-clause-fault c =
    zeros-begin (c.words.count + c.min-seen.result) c.args.most _ _
    (zeros-more c.words.count c.min-seen.result _ _ _ c.words.invariant.0
    (sym c.refill.ensures.bits
    ∙ zeros_begun c.front.result c.leading_zeros-zeros.result c.min-seen.result (bits_in c.refill.new.self) c.leading_zeros-zeros.ensures c.if-zeros-seen.false (omega arith)
    (c.front.ensures c.min-seen.result (omega arith) (omega (arith, c.held.ensures.value)))))
    c.if-count-most-2.true

pub words-smaller : goal.words-smaller
words-smaller c =
    let left = sym c.refill.ensures.bits
    ∙ zeros_begun c.front.result c.leading_zeros-zeros.result c.min-seen.result (bits_in c.refill.new.self) c.leading_zeros-zeros.ensures c.if-zeros-seen.false (omega arith)
    (c.front.ensures c.min-seen.result (omega arith) (omega (arith, c.held.ensures.value)))
    ∙ ap (λ bits. zero_bits c.min-seen.result ++ bits) (sym c.skip-in-words.ensures) in
    omega (arith, ap length left, length-append (zero_bits c.min-seen.result) (bits_in c.skip-in-words.new.self), length-zeros c.min-seen.result, c.if-seen-eq0.false)

pub words-preserved : goal.words-preserved
words-preserved c = (
  zeros-more c.words.count c.min-seen.result _ _ _ c.words.invariant.0
      (sym c.refill.ensures.bits
      ∙ zeros_begun c.front.result c.leading_zeros-zeros.result c.min-seen.result (bits_in c.refill.new.self) c.leading_zeros-zeros.ensures c.if-zeros-seen.false (omega arith)
      (c.front.ensures c.min-seen.result (omega arith) (omega (arith, c.held.ensures.value)))
      ∙ ap (λ bits. zero_bits c.min-seen.result ++ bits) (sym c.skip-in-words.ensures)),
  c.if-count-most-2.false,
)
