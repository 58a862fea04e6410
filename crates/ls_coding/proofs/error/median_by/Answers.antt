use Rattle.std.proofs.Common.{◌≡◌, ℕ, ◌-◌, pos, ◌+ℤ◌, ◌-ℤ◌, ap, ◌∙◌, arith}
use Rattle.std.specs.Int.{int_max, int_min}
use Rattle.std.proofs.lemmas.Int.{ints}
use lib.IntN.{nat_abs}
use Rattle.ls_coding.proofs.SignedLemmas.{through}
use Rattle.ls_coding.proofs.ErrorLemmas.{median_is, passed, sum_is, difference_is, min_same, max_same}
use Rattle.ls_coding.proofs.error.median_by.Goals as goal

pub returns : goal.returns
returns c c' d e f =
    let a : ℕ = c.args.a in
    let b : ℕ = c.args.b in
    let rise : ℕ = c.args.rise in
    let fall : ℕ = c.args.fall in
    let sum = sum_is _ _ (pos a) (pos rise) (passed c.from.result a c.from.ensures (omega arith)) (passed c.from-2.result rise c.from-2.ensures (omega arith)) (omega (arith, ints)) (omega (arith, ints)) in
    let difference = difference_is _ _ (pos a) (pos fall) (passed c.from-4.result a c.from-4.ensures (omega arith)) (passed c.from-5.result fall c.from-5.ensures (omega arith)) (omega (arith, ints)) (omega (arith, ints)) in
    let most : c.min-most.result ≡ int_min (pos a +ℤ pos rise) (pos b) =
    c.min-most.ensures.value ∙ min_same _ _ (pos a +ℤ pos rise) (pos b) sum (passed c.from-3.result b c.from-3.ensures (omega arith)) in
    let all : c.max.result ≡ int_max (int_min (pos a +ℤ pos rise) (pos b)) (pos a -ℤ pos fall) =
    c.max.ensures.value ∙ max_same _ _ (int_min (pos a +ℤ pos rise) (pos b)) (pos a -ℤ pos fall) (through c.min-most.result c.min-most.type_inv ∙ most) difference in
    ap nat_abs
    (through c.max.result c.max.type_inv ∙ all ∙ ap (λ n. int_max (int_min (pos a +ℤ pos n) (pos b)) (pos a -ℤ pos fall)) e
    ∙ ap (λ n. int_max (int_min (pos a +ℤ pos (b - c')) (pos b)) (pos a -ℤ pos n)) f ∙ median_is a b c' d)
