use Rattle.std.proofs.Common.{◌≡◌, ◌+◌, ◌∷◌, length, Some, refl, sym, ap, subst, ◌∙◌, arith}
use Rattle.ls_roundtrip.specs.View.RoundTrips.{IsUnrecorded}
use Rattle.ls_queue.proofs.EndLemmas.{took_first}
use Rattle.ls_recorder.proofs.ListLemmas.{ZippedSoFar, zipped-more}
use Rattle.ls_roundtrip.proofs.round_trip.unrecorded.Goals as goal

pub loop-alloc-preserved : goal.loop-alloc-preserved
loop-alloc-preserved c =
    let inv = c.loop-alloc.invariant in
    let all = c.args.films.items in
    let left = c.loop-alloc.films.items in
    let rest = c.remove.new.self.items in
    let film = c.remove.result in
    let made = c.loop-alloc.made.items in
    let size : length rest + 1 ≡ length left = omega (arith, c.remove.ensures.len, c.remove.new.self.ok, c.loop-alloc.films.ok) in
    let first : left ≡ film ∷ rest = took_first left rest film c.remove.ensures.value c.remove.ensures.items size in
    let empty = ap (λ v. Some v.items) c.new-in-loop-alloc.ensures.inner ∙ ap Some c.new.ensures.items in
    record {
      films = subst (ZippedSoFar IsUnrecorded all rest) (sym c.push_reserved.ensures.items)
          (zipped-more IsUnrecorded all left rest made film _ inv.films first (record { reader = refl; empty = empty; tuning = refl }));
      sum = (let s = inv.sum in let m = c.push_reserved.ensures.len in omega (arith, size, m, c.push_reserved.new.self.ok, c.loop-alloc.made.ok));
      room = omega (arith, inv.room, c.push_reserved.ensures.capacity);
    }
