use Rattle.std.proofs.Common.{◌++◌, ◌∷◌, [], ap, subst, ◌∙◌}
use Rattle.ls_queue.specs.View.Running.{Balances}
use Rattle.ls_recorder.proofs.HandedOverLemmas.{handed-over}
use Rattle.ls_recorder.proofs.lane.hand_over.Goals as goal

pub returns : goal.returns
returns g c = λ ended puts is.
    handed-over c.args.bookings c.args.finished c.args.taker c.in-Ok._account.counts ended c.requires.one.0
    (subst (λ l. Balances c.args.bookings c.args.finished l c.in-Ok._account.counts) (c.push_reserved.ensures.items ∙ ap (λ l. l ++ c.args.taker ∷ []) c.requires.seats.0) c.in-Ok.ensures.3)
    puts is.source
