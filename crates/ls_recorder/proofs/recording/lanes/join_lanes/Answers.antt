use Rattle.std.proofs.Common.{rules, ◌≡◌, ◌+◌, ◌++◌, ◌∷◌, [], length, sym, ap, subst, ◌∙◌, refl, arith}
use Rattle.ls_recorder.specs.View.Recordings.{AreDone}
use Rattle.ls_queue.proofs.EndLemmas.{took_first, none_left}
use Rattle.ls_recorder.proofs.RecordingLemmas.{joins, joined}
use Rattle.ls_recorder.proofs.recording.lanes.join_lanes.Goals as goal

pub loop-lanes-init : goal.loop-lanes-init
loop-lanes-init g c =
    let es = c.args.ended.now.items in
    let ts = c.args.tracks.now.items in
    let e : length es ≡ 0 = ap length c.requires.no_ended in
    let t : length ts ≡ 0 = ap length c.requires.no_tracks in
    record {
      films = λ films started. (
        [],
        films,
        refl,
        subst (λ l. AreDone g.R.Read.remaining g.R.Feed.failed_reads g.W.Write.contents g.W.Outlet.failed_writes c.args.queue.now 0 [] l ts) (sym c.requires.no_ended)
            (subst (λ l. AreDone g.R.Read.remaining g.R.Feed.failed_reads g.W.Write.contents g.W.Outlet.failed_writes c.args.queue.now 0 [] [] l) (sym c.requires.no_tracks) _),
        started,
      );
      sum = omega arith;
      same = omega arith;
      ended_capacity = refl;
      tracks_capacity = refl;
    }

pub loop-lanes-preserved : goal.loop-lanes-preserved
loop-lanes-preserved g c =
    let before = c.loop-lanes.invariant in
    let es = c.loop-lanes.ended.items in
    let ts = c.loop-lanes.tracks.items in
    let l = c.remove-lane.result in
    let rest = c.remove-lane.new.self.items in
    let size : length rest + 1 ≡ length c.loop-lanes.lanes.items = omega (arith, c.remove-lane.ensures.len, c.remove-lane.new.self.ok, c.loop-lanes.lanes.ok) in
    let first : c.loop-lanes.lanes.items ≡ l ∷ rest = took_first c.loop-lanes.lanes.items rest l c.remove-lane.ensures.value c.remove-lane.ensures.items size in
    let more : length c.push_reserved.new.self.items ≡ length es + 1 = omega (arith, c.push_reserved.ensures.len, c.push_reserved.new.self.ok, c.loop-lanes.ended.ok) in
    let more' : length c.push_reserved-in-loop-lanes.new.self.items ≡ length ts + 1 =
    omega (arith, c.push_reserved-in-loop-lanes.ensures.len, c.push_reserved-in-loop-lanes.new.self.ok, c.loop-lanes.tracks.ok) in
    record {
      films = λ films started.
          let b = before.films films started in
          let j = joins g.R.Read.remaining g.R.Feed.failed_reads g.W.Write.contents g.W.Outlet.failed_writes c.args.queue.now films b.0 b.1 es ts c.loop-lanes.lanes.items rest l _ _ b.2 b.3 b.4 first c.join_lane-last.ensures in (
            j.0,
            j.1,
            j.2,
            subst (λ x. AreDone g.R.Read.remaining g.R.Feed.failed_reads g.W.Write.contents g.W.Outlet.failed_writes c.args.queue.now 0 j.0 x c.push_reserved-in-loop-lanes.new.self.items) (sym c.push_reserved.ensures.items)
                (subst (λ x. AreDone g.R.Read.remaining g.R.Feed.failed_reads g.W.Write.contents g.W.Outlet.failed_writes c.args.queue.now 0 j.0 (es ++ c.join_lane-last.result.ended ∷ []) x) (sym c.push_reserved-in-loop-lanes.ensures.items) j.3),
            j.4,
          );
      sum = (let s = before.sum in omega arith);
      same = (let s = before.same in omega arith);
      ended_capacity = c.push_reserved.ensures.capacity ∙ before.ended_capacity;
      tracks_capacity = c.push_reserved-in-loop-lanes.ensures.capacity ∙ before.tracks_capacity;
    }

pub returns : goal.returns
returns g c = λ films started.
    let b = c.loop-lanes.invariant.films films started in
    let none : length c.loop-lanes.lanes.items ≡ 0 = search rules in
    joined g.R.Read.remaining g.R.Feed.failed_reads g.W.Write.contents g.W.Outlet.failed_writes c.args.queue.now films b.0 b.1 _ _ _ b.2 b.3 b.4 (none_left _ none)
