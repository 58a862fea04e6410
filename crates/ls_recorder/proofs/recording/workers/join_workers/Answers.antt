use Rattle.std.proofs.Common.{rules, ◌≡◌, [], ◌∷◌, ◌++◌, subst, sym, true}
use Rattle.ls_queue.specs.View.Running.{AreWorkerSeats, all_done, IsWorkerSeat}
use Rattle.ls_recorder.specs.View.Recordings.{AreWorking}
use Rattle.ls_film.proofs.FilmLemmas.{all-more}
use Rattle.ls_recorder.proofs.RecordingLemmas.{all_done-more}
use Rattle.ls_recorder.proofs.recording.workers.join_workers.Goals as goal

pub loop-working-preserved : goal.loop-working-preserved
loop-working-preserved g c =
    let left : AreWorking c.args.queue.now c.remove.new.self.items = search rules in
    let seat : IsWorkerSeat c.args.queue.now c.join-worked.result.seat = search rules in (
      left,
      subst (AreWorkerSeats c.args.queue.now) (sym c.push_reserved.ensures.items) (all-more _ c.loop-working.seats.items _ c.loop-working.invariant.1 seat),
      (let e : all_done (c.loop-working.seats.items ++ c.join-worked.result.seat ∷ []) ≡ true = all_done-more c.loop-working.seats.items _ c.loop-working.invariant.2 c.join-worked.ensures.done in subst (λ l. all_done l ≡ true) (sym c.push_reserved.ensures.items) e),
      search rules,
      search rules,
    )
