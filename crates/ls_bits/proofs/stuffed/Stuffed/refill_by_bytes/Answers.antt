use Rattle.std.proofs.Common.{inr, ◌∙◌, arith, rules}
use Rattle.ls_bits.proofs.WindowLemmas.{byte_in, all_held}
use Rattle.ls_bits.proofs.stuffed.Stuffed.refill_by_bytes.Goals as goal

pub bytes-preserved : goal.bytes-preserved
bytes-preserved c =
    let taken = byte_in c.bytes.self-inside.word c.bytes.self-inside.held c.byte_bits-size.result c.from.result c.bytes.self-inside.after_ff c.bytes.self-inside.rest.now
    (omega arith) c.bytes.invariant.0 (omega arith) c.byte_bits-size.ensures c.from.ensures in
    (taken.window, taken.left ∙ c.bytes.invariant.1)

pub returns-then-self-lt1-clause-enough : goal.returns-then-self-lt1-clause-enough
returns-then-self-lt1-clause-enough c =
    inr (all_held c.bytes.self-inside.word c.bytes.self-inside.held c.bytes.self-inside.after_ff c.bytes.self-inside.rest.now (search rules))
