use Rattle.std.proofs.Common.{◌≡◌, ◌+◌, ◌++◌, ◌∷◌, [], length, sym, ap, subst, ◌∙◌, refl, arith, append_assoc}
use Rattle.ls_recorder.specs.View.Recordings.{AreStarted}
use Rattle.std.proofs.lemmas.List.{length_push}
use Rattle.ls_queue.proofs.EndLemmas.{took_first}
use Rattle.ls_recorder.proofs.RecordingLemmas.{started-more, seat-first, inbox-first}
use Rattle.ls_recorder.proofs.recording.lanes.start_lanes.Goals as goal

pub loop-films-init : goal.loop-films-init
loop-films-init g c =
    let ls = c.args.lanes.now.items in
    let none : length ls ≡ 0 = ap length c.requires.none in
    record {
      done = [];
      whole = refl;
      count = refl;
      started = subst (λ l. AreStarted g.R.Read.remaining g.R.Feed.failed_reads g.W.Write.contents g.W.Outlet.failed_writes c.args.shared.now.queue.now 0 [] l) (sym c.requires.none) _;
      lanes = none;
      seats = c.requires.seats.0;
      inboxes = c.requires.inboxes.0;
      many_seats = c.requires.seats.1 ∙ sym c.requires.films;
      many_inboxes = c.requires.inboxes.1 ∙ sym c.requires.films;
      sum = omega arith;
      capacity = refl;
    }

pub loop-films-preserved : goal.loop-films-preserved
loop-films-preserved g c =
    let before = c.loop-films.invariant in
    let film = c.remove-film.result in
    let films = c.remove-film.new.self.items in
    let film_size : length films + 1 ≡ length c.loop-films.films.items = omega (arith, c.remove-film.ensures.len, c.remove-film.new.self.ok, c.loop-films.films.ok) in
    let first_film : c.loop-films.films.items ≡ film ∷ films = took_first c.loop-films.films.items films film c.remove-film.ensures.value c.remove-film.ensures.items film_size in
    let seat = c.remove-seat.result in
    let seats = c.remove-seat.new.self.items in
    let seat_size : length seats + 1 ≡ length c.loop-films.seats.items = omega (arith, c.remove-seat.ensures.len, c.remove-seat.new.self.ok, c.loop-films.seats.ok) in
    let first_seat : c.loop-films.seats.items ≡ seat ∷ seats = took_first c.loop-films.seats.items seats seat c.remove-seat.ensures.value c.remove-seat.ensures.items seat_size in
    let inbox = c.remove-inbox.result in
    let inboxes = c.remove-inbox.new.self.items in
    let inbox_size : length inboxes + 1 ≡ length c.loop-films.inboxes.items = omega (arith, c.remove-inbox.ensures.len, c.remove-inbox.new.self.ok, c.loop-films.inboxes.ok) in
    let first_inbox : c.loop-films.inboxes.items ≡ inbox ∷ inboxes = took_first c.loop-films.inboxes.items inboxes inbox c.remove-inbox.ensures.value c.remove-inbox.ensures.items inbox_size in
    let own = seat-first c.args.shared.now.queue.now.channel c.loop-films.source _ seats seat first_seat before.seats in
    let box = inbox-first c.loop-films.source _ inboxes inbox first_inbox before.inboxes in
    let more : length c.push_reserved.new.self.items ≡ length c.loop-films.lanes.items + 1 = omega (arith, c.push_reserved.ensures.len, c.push_reserved.new.self.ok, c.loop-films.lanes.ok) in
    record {
      done = before.done ++ film ∷ [];
      whole = append_assoc before.done (film ∷ []) films ∙ (ap (λ l. before.done ++ l) (sym first_film) ∙ before.whole);
      count = (let n = before.count in let m = length_push before.done film in omega arith);
      started = subst (λ l. AreStarted g.R.Read.remaining g.R.Feed.failed_reads g.W.Write.contents g.W.Outlet.failed_writes c.args.shared.now.queue.now 0 (before.done ++ film ∷ []) l) (sym c.push_reserved.ensures.items)
          (started-more g.R.Read.remaining g.R.Feed.failed_reads g.W.Write.contents g.W.Outlet.failed_writes c.args.shared.now.queue.now 0 c.loop-films.source before.done c.loop-films.lanes.items film c.start_lane.result before.started (let n = before.count in omega arith) c.start_lane.ensures);
      lanes = (let n = before.lanes in omega arith);
      seats = own.1;
      inboxes = box.1;
      many_seats = (let n = before.many_seats in omega arith);
      many_inboxes = (let n = before.many_inboxes in omega arith);
      sum = (let n = before.sum in omega arith);
      capacity = c.push_reserved.ensures.capacity ∙ before.capacity;
    }
