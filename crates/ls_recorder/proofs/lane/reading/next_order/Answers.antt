use Rattle.std.proofs.Common.{inl}
use Rattle.ls_film.proofs.FilmLemmas.{Gave-weaker}
use Rattle.ls_recorder.proofs.lane.reading.next_order.Goals as goal

pub returns-in-Err-NoMemory-clause-stops : goal.returns-in-Err-NoMemory-clause-stops
returns-in-Err-NoMemory-clause-stops g c =
    Gave-weaker _ _ _ _ (c.in-Err-NoMemory.ensures.memory c.in-Err-NoMemory.field-0-is) (λ bytes heading. inl heading)
