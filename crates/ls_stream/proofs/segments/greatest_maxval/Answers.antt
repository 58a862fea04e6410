use Rattle.std.proofs.Common.{◌^◌, ◌≤◌, arith}
use Rattle.std.proofs.Math.Pow.{pow_mono}
use Rattle.ls_stream.proofs.segments.greatest_maxval.Goals as goal

pub returns-clause-some : goal.returns-clause-some
returns-clause-some c =
    let low : 2 ^ 2 ≤ 2 ^ c.args.precision = pow_mono c.requires.low in
    let high : 2 ^ c.args.precision ≤ 2 ^ 16 = pow_mono c.requires.high in
    omega arith
