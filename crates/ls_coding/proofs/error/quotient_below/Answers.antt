use Rattle.std.proofs.Common.{◌*◌, ◌/◌, ◌<◌, ap, ◌∙◌, arith}
use Rattle.std.proofs.lemmas.Nat.{mul-le}
use Rattle.ls_coding.proofs.GolombParameterLemmas.{quotient_is}
use Rattle.ls_coding.proofs.error.quotient_below.Goals as goal

pub returns-clause-value : goal.returns-clause-value
returns-clause-value c =
    let small : c.args.a * c.args.n < 4294967296 = omega (arith, mul-le c.args.a c.args.n (256 * 65535) 256 (omega arith) c.requires.small) in
    ap (λ x. x * c.from-2.result / 4294967296) c.from.ensures ∙ ap (λ x. c.args.a * x / 4294967296) (c.from-2.ensures ∙ c.reciprocal.ensures)
    ∙ quotient_is c.args.n c.args.a c.requires.some small
