use Rattle.std.proofs.Common.{◌≤◌, ◌-◌, ◌∙◌, ap, sym, subst, take}
use Rattle.ls_bits.specs.View.Plain.{Placed, bits_in}
use Rattle.ls_bits.proofs.PlainLemmas.{ahead_of, front_seen}
use Rattle.ls_bits.proofs.source.BitSource.front.Goals as goal

pub returns : goal.returns
returns c n few there =
    front_seen (ahead_of c.self.inside.bytes c.self.inside.stuffed.bits) c.self.inside.place c.self.inside.end c.front_of.result n c.self.invariant c.front_of.ensures few
    (subst (λ (p : Placed). n ≤ p.end - p.place) (sym c.self.view_is) there)
    ∙ ap (λ (p : Placed). take n (bits_in p)) c.self.view_is
