use Rattle.std.proofs.Common.{length, refl, sym, ap, subst, ◌∙◌, inl, inr, arith}
use Rattle.std.specs.Prelude.{MatchResult}
use Rattle.std.specs.Io.KnownBytes.{Appends}
use Rattle.ls_film.specs.Coding.{file}
use Rattle.ls_queue.specs.View.Running.{items_put}
use Rattle.ls_recorder.specs.View.Lanes.{StopsWriting, WroteFirst}
use Rattle.ls_recorder.proofs.WritingLemmas.{orders-many}
use Rattle.ls_recorder.proofs.LaneEndLemmas.{Ends, ends-both, begins-without-memory, begins-with-window}
use Rattle.ls_recorder.proofs.lane.watched_lane.Goals as goal

pub returns-in_default-clause-end : goal.returns-in_default-clause-end
returns-in_default-clause-end g c = record {
  ended = c.end.ensures.ended;
  source = c.end.ensures.same.0;
  count = c.end.ensures.same.1 ∙ sym (ap length c.end.ensures.same.2);
  completes = tt;
  stops = inr (begins-without-memory c.args.start.film.2 _ _ _ (c.end.ensures.same.2 ∙ c.requires.new));
  reads = inl refl;
  writes = refl;
}

pub returns-in_default-clause-window : goal.returns-in_default-clause-window
returns-in_default-clause-window g c = begins-with-window _ _ _ (c.end.ensures.same.2 ∙ c.requires.new)

pub compare-requires : goal.compare-requires
compare-requires g c =
    c.run_in_scope-read.ensures.read.places.1 ∙ c.in-Ok.ensures.places.one_channel ∙ sym c.run_in_scope-read.ensures.wrote.returns

pub returns-clause-window : goal.returns-clause-window
returns-clause-window g c =
    let read = c.run_in_scope-read.ensures.read in
    let wrote = c.run_in_scope-read.ensures.wrote in
    let taken = c.hand_over.ensures read.ended read.puts read.ended_is ∙ read.booked in
    let start = c.args.start.film.1 in
    let writer = c.run_in_scope-read.result.1.writer in
    record {
      count = c.run_in_scope-read.result.1.returns.returned;
      within = omega (arith, ap length c.end-2.ensures.same.2, read.taken, read.places.0, c.in-Ok.ensures.places.window_is, c.compare.ensures);
      wrote = subst (λ l. WroteFirst l (g.W.Write.contents start) (g.W.Write.contents writer) c.run_in_scope-read.result.1.returns.returned) (taken ∙ sym c.end-2.ensures.same.2) wrote.returned;
    }

pub returns-clause-end : goal.returns-clause-end
returns-clause-end g c =
    let read = c.run_in_scope-read.ensures.read in
    let wrote = c.run_in_scope-read.ensures.wrote in
    let film = c.args.start.film in
    let reader = c.run_in_scope-read.result.0.reader in
    let writer = c.run_in_scope-read.result.1.writer in
    let taken = c.hand_over.ensures read.ended read.puts read.ended_is ∙ read.booked in
    let why = subst (λ l. MatchResult c.run_in_scope-read.result.1.result
    (λ _. Appends (g.W.Write.contents film.1) (g.W.Write.contents writer) (file l))
    (StopsWriting l (g.W.Write.contents film.1) (g.W.Write.contents writer))) taken wrote.wrote in
    let ends = subst (λ l. Ends g.F.Read.remaining g.F.Feed.failed_reads g.W.Write.contents g.W.Outlet.failed_writes film.2 l film.0 reader film.1 writer c.outcome-result.result) (sym c.end-2.ensures.same.2)
    (ends-both g.F.Read.remaining g.F.Feed.failed_reads g.W.Write.contents g.W.Outlet.failed_writes film.2 (items_put c.run_in_scope-read.result.0.seat) film.0 reader film.1 writer
    c.run_in_scope-read.result.0.result c.run_in_scope-read.result.1.result c.outcome-result.result c.outcome-result.ensures read.read read.reads why wrote.writes
    (λ none. wrote.untouched (sym (orders-many c.run_in_scope-read.result.1.seat) ∙ ap length taken ∙ none))) in
    record {
      ended = c.end-2.ensures.ended;
      source = c.end-2.ensures.same.0 ∙ read.source;
      count = c.end-2.ensures.same.1 ∙ sym (ap length c.end-2.ensures.same.2);
      completes = ends.completes;
      stops = ends.stops;
      reads = ends.reads;
      writes = ends.writes;
    }
