use Rattle.std.proofs.Common.{ap, length, arith}
use Rattle.ls_bits.specs.View.Plain.{Placed, bits_in}
use Rattle.ls_bits.proofs.PlainLemmas.{ahead_of, length-from}
use Rattle.ls_bits.proofs.source.BitSource.left.Goals as goal

pub returns : goal.returns
returns c =
    omega (
      arith,
      c.left.ensures,
      c.saturating_add.ensures,
      c.held.ensures.value,
      length-from (ahead_of c.self.inside.bytes c.self.inside.stuffed.bits) c.self.inside.place c.self.inside.end c.self.invariant,
      ap (λ (p : Placed). p.place) c.self.view_is,
      ap (λ (p : Placed). p.end) c.self.view_is,
      ap (λ (p : Placed). length (bits_in p)) c.self.view_is,
    )
