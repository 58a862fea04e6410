use Rattle.std.proofs.Common.{◌≡◌, ◌+◌, ◌∷◌, length, sym, subst, arith}
use Rattle.ls_roundtrip.specs.View.RoundTrips.{IsPlayed}
use Rattle.ls_queue.proofs.EndLemmas.{took_first}
use Rattle.ls_recorder.proofs.ListLemmas.{ZippedSoFar, zipped-more}
use Rattle.ls_roundtrip.proofs.round_trip.play_all.Goals as goal

pub tracks-preserved : goal.tracks-preserved
tracks-preserved g c =
    let inv = c.tracks.invariant in
    let all = c.args.tracks.items in
    let left = c.tracks.tracks.items in
    let rest = c.remove-track.new.self.items in
    let track = c.remove-track.result in
    let played_back = c.tracks.played_back.items in
    let size : length rest + 1 ≡ length left = omega (arith, c.remove-track.ensures.len, c.remove-track.new.self.ok, c.tracks.tracks.ok) in
    let first : left ≡ track ∷ rest = took_first left rest track c.remove-track.ensures.value c.remove-track.ensures.items size in
    record {
      tracks = subst (ZippedSoFar IsPlayed all rest) (sym c.push_reserved.ensures.items)
          (zipped-more IsPlayed all left rest played_back track _ inv.tracks first c.play_back.ensures);
      sum = (let s = inv.sum in let m = c.push_reserved.ensures.len in omega (arith, size, m, c.push_reserved.new.self.ok, c.tracks.played_back.ok));
      room = omega (arith, inv.room, c.push_reserved.ensures.capacity);
    }
