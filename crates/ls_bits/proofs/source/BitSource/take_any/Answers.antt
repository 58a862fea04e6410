use Rattle.std.proofs.Common.{ℕ, sym, subst, arith}
use Rattle.std.proofs.lemmas.Result.{err_from_is_err_and}
use Rattle.ls_bits.specs.Golomb.{TakesWord}
use Rattle.ls_bits.specs.View.Plain.{bits_in}
use Rattle.ls_bits.proofs.GolombLaws.{TooFew, too_few, zeros_fault, short_taken, short_too_large, escape_taken, escape_needless}
use Rattle.ls_bits.proofs.source.BitSource.take_any.Goals as goal

pub returns-in_err-zeros-clause-fault : goal.returns-in_err-zeros-clause-fault
returns-in_err-zeros-clause-fault c =
    let p = err_from_is_err_and c.from_residual.result c.from_residual.ensures.1 in
    rw (p.1, p.2) (zeros_fault c.args.k c.args.glimit c.args.qbpp (bits_in c.args.self.now) c.in_err-zeros.field-0.0 c.requires
    c.in_err-zeros.ensures.fault)

pub returns-in_err-low-clause-fault : goal.returns-in_err-low-clause-fault
returns-in_err-low-clause-fault c =
    let p = err_from_is_err_and c.from_residual-in_err-low.result c.from_residual-in_err-low.ensures.1 in
    let few : TooFew c.args.k c.args.glimit c.args.qbpp c.in_ok-zeros.zeros (bits_in c.take_zeros.new.self) = record {
      enough_zeros = c.in_ok-zeros.ensures.most;
      few_short = λ less. c.in_err-low.ensures.fault.1;
      few_escaped = λ more. absurd (omega (arith, c.if-zeros-escape.true));
    } in
    rw (p.1, p.2, c.in_err-low.ensures.fault.0)
    (too_few c.args.k c.args.glimit c.args.qbpp c.in_ok-zeros.zeros (bits_in c.args.self.now) _ c.requires (c.in_ok-zeros.ensures.ok) few)

pub returns-in_err-value-clause-fault : goal.returns-in_err-value-clause-fault
returns-in_err-value-clause-fault c =
    let p = err_from_is_err_and c.from_residual-in_err-value.result c.from_residual-in_err-value.ensures.1 in
    let few : TooFew c.args.k c.args.glimit c.args.qbpp c.in_ok-zeros.zeros (bits_in c.take_zeros.new.self) = record {
      enough_zeros = c.in_ok-zeros.ensures.most;
      few_short = λ less. absurd (omega (arith, c.if-zeros-escape.false));
      few_escaped = λ more. c.in_err-value.ensures.fault.1;
    } in
    rw (p.1, p.2, c.in_err-value.ensures.fault.0)
    (too_few c.args.k c.args.glimit c.args.qbpp c.in_ok-zeros.zeros (bits_in c.args.self.now) _ c.requires (c.in_ok-zeros.ensures.ok) few)

pub returns-then-value-most-clause-fault : goal.returns-then-value-most-clause-fault
returns-then-value-most-clause-fault c =
    short_too_large c.args.k c.args.glimit c.args.qbpp c.in_ok-zeros.zeros c.in_ok-low.low (bits_in c.args.self.now) _ _ c.if-zeros-escape.true
    (c.in_ok-zeros.ensures.ok) c.in_ok-low.ensures.ok c.in_ok-low.ensures.value (omega (arith, c.if-value-most.true, c.most.ensures, c.joined-value.ensures))

pub returns-else-value-most-clause-ok : goal.returns-else-value-most-clause-ok
returns-else-value-most-clause-ok c =
    let word = short_taken c.args.k c.args.glimit c.args.qbpp c.in_ok-zeros.zeros c.in_ok-low.low (bits_in c.args.self.now) _ _ c.if-zeros-escape.true
    (c.in_ok-zeros.ensures.ok) c.in_ok-low.ensures.ok c.in_ok-low.ensures.value (omega (arith, c.if-value-most.false, c.most.ensures, c.joined-value.ensures)) in
    subst (λ (value : ℕ). TakesWord c.args.k c.args.glimit c.args.qbpp (bits_in c.args.self.now) value (bits_in c.bits.new.self))
    (sym c.joined-value.ensures) word

pub returns-then-value-k-clause-fault : goal.returns-then-value-k-clause-fault
returns-then-value-k-clause-fault c =
    escape_needless c.args.k c.args.glimit c.args.qbpp c.in_ok-zeros.zeros c.in_ok-value.field-0 (bits_in c.args.self.now) _ _
    (omega (arith, c.in_ok-zeros.ensures.most, c.if-zeros-escape.false))
    (c.in_ok-zeros.ensures.ok) c.in_ok-value.ensures.ok c.in_ok-value.ensures.value c.if-value-k.true

pub returns-else-value-k-clause-ok : goal.returns-else-value-k-clause-ok
returns-else-value-k-clause-ok c =
    escape_taken c.args.k c.args.glimit c.args.qbpp c.in_ok-zeros.zeros c.in_ok-value.field-0 (bits_in c.args.self.now) _ _
    (omega (arith, c.in_ok-zeros.ensures.most, c.if-zeros-escape.false))
    (c.in_ok-zeros.ensures.ok) c.in_ok-value.ensures.ok c.in_ok-value.ensures.value c.if-value-k.false
