use Rattle.std.proofs.Common.{◌≡◌, ◌-◌, None, Some, sym, subst, rules}
use Rattle.std.specs.List.{slice_get}
use Rattle.ls_pieces.specs.Collecting.{Collection, misfit_of}
use Rattle.ls_pieces.proofs.CollectorLemmas.{accepted, after_accepted, is_there}
use Rattle.ls_pieces.proofs.collector.Collector.accept.Goals as goal
use Rattle.ls_pieces.proofs.collector.Collector.accept.Goals.{in-Some-get_mut, in_default-get_mut}

pub invariant_of-self : goal.invariant_of-self
invariant_of-self c =
    let none : misfit_of c.args.self.now c.args.piece ≡ None = search rules in
    let before = subst (λ (q : Collection). misfit_of q c.args.piece ≡ None) (sym c.self.view_is) none in
    elim c.match-get_mut.branch [
      | in-Some-get_mut w ↦
          let at : slice_get c.self.inside.slots.items (c.args.piece.number - c.self.inside.first) ≡ Some w.in-Some-get_mut.slot.now = search rules in
          rw (w.self-inside-is, c.number.ensures, w.fill.ensures) (accepted _ c.args.piece w.in-Some-get_mut.slot.now c.self.invariant before at)
      | in_default-get_mut w ↦ rw w.self-inside-is c.self.invariant
    ]

pub returns : goal.returns
returns c =
    let none : misfit_of c.args.self.now c.args.piece ≡ None = search rules in
    let before = subst (λ (q : Collection). misfit_of q c.args.piece ≡ None) (sym c.self.view_is) none in (
      none,
      rw (sym c.self.view_is) (elim c.match-get_mut.branch [
        | in-Some-get_mut w ↦
            let at : slice_get c.self.inside.slots.items (c.args.piece.number - c.self.inside.first) ≡ Some w.in-Some-get_mut.slot.now = search rules in
            rw (w.self-inside-is, c.number.ensures, w.fill.ensures) (after_accepted _ c.args.piece w.in-Some-get_mut.slot.now before at)
        | in_default-get_mut w ↦
            let at : slice_get c.self.inside.slots.items (c.args.piece.number - c.self.inside.first) ≡ None = search rules in
            absurd (is_there (record { source = c.self.inside.source; window = c.self.inside.slots.capacity; first = c.self.inside.first; slots = c.self.inside.slots.items }) c.args.piece before at)
      ]),
    )
