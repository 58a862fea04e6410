use Rattle.std.proofs.Common.{◌<◌, ◌-◌, ◌^◌, refl, sym, subst}
use Rattle.ls_pieces.specs.Collecting.{Collection, booked}
use Rattle.ls_pieces.proofs.CollectorLemmas.{IsCollection-book}
use Rattle.ls_pieces.proofs.collector.Collector.book.Goals as goal

pub invariant_of-self-2 : goal.invariant_of-self-2
invariant_of-self-2 c =
    rw (c.in-Ok.ensures.ok) (IsCollection-book _ c.args.order c.self.invariant (subst (λ (q : Collection). booked q < 2 ^ 64 - 1) (sym c.self.view_is) c.requires) (c.in-Ok.ensures.variant.0 refl))
