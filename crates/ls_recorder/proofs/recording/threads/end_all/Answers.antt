use Rattle.std.proofs.Common.{◌≡◌, ◌+◌, ◌∷◌, true, length, sym, ap, subst, ◌∙◌, arith}
use Rattle.ls_queue.specs.View.Running.{AreNewSources, AreEnds, has_end}
use Rattle.std.proofs.lemmas.List.{length_push}
use Rattle.ls_queue.proofs.EndLemmas.{took_first}
use Rattle.ls_film.proofs.FilmLemmas.{all-more}
use Rattle.ls_recorder.proofs.RecordingLemmas.{each-more}
use Rattle.ls_recorder.proofs.recording.threads.end_all.Goals as goal

pub loop-seats-preserved : goal.loop-seats-preserved
loop-seats-preserved g c =
    let before = c.loop-seats.invariant in
    let ended = c.loop-seats.ended.items in
    let seat = c.remove-seat.result in
    let rest = c.remove-seat.new.self.items in
    let end = c.end.result in
    let size : length rest + 1 ≡ length c.loop-seats.seats.items = omega (arith, c.remove-seat.ensures.len, c.remove-seat.new.self.ok, c.loop-seats.seats.ok) in
    let first : c.loop-seats.seats.items ≡ seat ∷ rest = took_first c.loop-seats.seats.items rest seat c.remove-seat.ensures.value c.remove-seat.ensures.items size in
    let left = subst (AreNewSources c.args.queue.now.channel (length ended)) first before.left in
    let more : length c.push_reserved.new.self.items ≡ length ended + 1 = ap length c.push_reserved.ensures.items ∙ length_push ended end in
    record {
      left = subst (λ n. AreNewSources c.args.queue.now.channel n rest) (omega arith) left.1;
      ended = subst (AreEnds c.args.queue.now) (sym c.push_reserved.ensures.items) (all-more _ ended end before.ended c.end.ensures.ended);
      each = λ s less. subst (λ es. has_end s es ≡ true) (sym c.push_reserved.ensures.items)
          (each-more ended end (length ended) before.each (c.end.ensures.same.0 ∙ left.0.1) s (omega arith));
      sum = (let s = before.sum in omega arith);
      same = before.same;
      capacity = c.push_reserved.ensures.capacity ∙ before.capacity;
    }
