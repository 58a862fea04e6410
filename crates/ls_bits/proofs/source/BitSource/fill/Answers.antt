use Rattle.std.proofs.Common.{◌+◌, ◌∙◌, sym, subst, arith}
use Rattle.ls_bits.proofs.PlainLemmas.{IsLonger, longer_by_four, longer_by_eight}
use Rattle.ls_bits.proofs.source.BitSource.fill.Goals as goal

pub words-preserved-in-Some : goal.words-preserved-in-Some
words-preserved-in-Some c =
    let before = c.words.self-inside in
    let longer = subst (λ bytes. IsLonger before.bytes bytes before.place before.end (before.end + 64) before.stuffed.bits c.take_eight.new.self.bits) (sym c.put_eight.ensures)
    (longer_by_eight before.bytes before.place before.end c.in-Some.bits before.stuffed.bits c.take_eight.new.self.bits c.words.invariant.0 c.words-test.true c.in-Some.ensures.some) in
    (longer.ahead, longer.bits ∙ c.words.invariant.1, c.words.invariant.2)

pub words-preserved : goal.words-preserved
words-preserved c =
    let before = c.words.self-inside in
    let taken = c.take-taken in
    let longer = subst (λ bytes. IsLonger before.bytes bytes before.place before.end (before.end + taken.result.count) before.stuffed.bits taken.new.self.bits) (sym c.put_four.ensures)
    (longer_by_four before.bytes before.place before.end taken.result.count taken.result.bits before.stuffed.bits taken.new.self.bits c.words.invariant.0 (omega (arith, c.words-test.true))
    c.if-taken-eq0.false (sym c.in_default.ensures.none ∙ taken.ensures.bits) taken.ensures.most taken.ensures.all) in
    (longer.ahead, longer.bits ∙ c.words.invariant.1, c.words.invariant.2)
