use Rattle.std.proofs.Common.{[], ◌∷◌, ◌++◌, sym, ap, ◌∙◌, rules}
use Rattle.ls_queue.specs.View.Running.{items_put}
use Rattle.ls_recorder.proofs.lane.reading.put.Goals as goal

pub returns-clause-same : goal.returns-clause-same
returns-clause-same g c =
    c.in-Ok-put.ensures.put.2 ∙ ap (λ l. l ++ c.in-Ok.copy ∷ []) c.requires.same
    ∙ ap (λ order. items_put c.args.seat.now ++ order ∷ []) c.in-Ok.ensures ∙ sym c.put_booked.ensures.put

pub returns-clause-put : goal.returns-clause-put
returns-clause-put g c = c.put_booked.ensures.put

pub put_booked-requires-clause-booked : goal.put_booked-requires-clause-booked
put_booked-requires-clause-booked g c = search rules
