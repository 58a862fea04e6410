use Rattle.std.proofs.Common.{◌≤◌, ◌-◌, ◌∙◌, ap, sym, subst, drop}
use Rattle.ls_bits.specs.View.Plain.{Placed, bits_in}
use Rattle.ls_bits.proofs.PlainLemmas.{ahead_of, skipped}
use Rattle.ls_bits.proofs.source.BitSource.skip.Goals as goal

pub returns : goal.returns
returns c =
    skipped (ahead_of c.self.inside.bytes c.self.inside.stuffed.bits) c.self.inside.place c.self.inside.end c.args.count c.self.invariant
    (subst (λ (p : Placed). c.args.count ≤ p.end - p.place) (sym c.self.view_is) c.requires)
    ∙ ap (λ (p : Placed). drop c.args.count (bits_in p)) c.self.view_is
