use Rattle.std.proofs.Common.{◌≡◌, ℕ, ◌+◌, ◌<◌, nat_lt, Bool, true, false, ◌∷◌, ◌++◌, [], true≢false, map, refl, sym, ap, ◌∙◌, arith, append_assoc}
use Rattle.std.proofs.lemmas.Bool.{lt-ltb, le-ltb}
use Rattle.std.proofs.lemmas.List.{length_push}
use Rattle.ls_queue.specs.declared.replies.Job.{Job}
use Rattle.ls_pieces.specs.Orders.{Ordered}
use Rattle.ls_recorder.specs.View.Halves.{orders_taken}
use Rattle.ls_recorder.proofs.WritingLemmas.{orders-more}
use Rattle.ls_recorder.proofs.lane.writing.drain.Goals.{then-left-eq0, in-Job-2}
use Rattle.ls_recorder.proofs.lane.writing.drain.Goals as goal

-- one more order was taken, and as many as allowed before
beyond : (b : Bool) (most left size size' : ℕ) → (b ≡ false → size + left ≡ most) → (b ≡ true → most < size) → size' ≡ size + 1 → left ≡ 0 → most < size'
beyond true most left size size' few far more none = omega (arith, far refl, more)
beyond false most left size size' few far more none = omega (arith, few refl, more, none)

nat-lt-of : (b : Bool) (most left size : ℕ) → (b ≡ false → size + left ≡ most) → (b ≡ true → most < size) → b ≡ nat_lt most size
nat-lt-of true most left size few far = sym (lt-ltb most size (far refl))
nat-lt-of false most left size few far = sym (le-ltb most size (omega (arith, few refl)))

pub returns-in-Done-clause-more : goal.returns-in-Done-clause-more
returns-in-Done-clause-more g c =
    let inv = c.loop.invariant in
    (inv.more, ap (map (λ (j : Job Ordered). j.item)) c.in-Done.ensures.taken.1 ∙ inv.taken, nat-lt-of c.loop.beyond _ _ _ inv.few inv.far)

pub loop-preserved-after-left-eq0 : goal.loop-preserved-after-left-eq0
loop-preserved-after-left-eq0 g c =
    let inv = c.loop.invariant in
    let job = c.in-Job.field-0 in
    let size = length_push inv.more job.item in
    record {
      seat = c.in-Job.ensures.seat;
      more = inv.more ++ job.item ∷ [];
      taken = orders-more c.loop.seat c.take.new.seat job c.in-Job.ensures.taken.2 ∙ ap (λ l. l ++ job.item ∷ []) inv.taken ∙ append_assoc (orders_taken c.args.seat.now) inv.more (job.item ∷ []);
      few = elim c.if-left-eq0.branch [
        | then-left-eq0 w ↦ (λ no. absurd (true≢false (sym w.beyond-is ∙ no)))
        | in-Job-2 w ↦ (λ no. let few = inv.few (sym w.beyond-is ∙ no) in omega (arith, size, few, w.left-is, w.in-Job-2))
      ];
      far = elim c.if-left-eq0.branch [
        | then-left-eq0 w ↦ (λ yes. beyond c.loop.beyond _ _ _ _ inv.few inv.far size (omega (arith, w.if-left-eq0.true)))
        | in-Job-2 w ↦ (λ yes. omega (arith, size, inv.far (sym w.beyond-is ∙ yes)))
      ];
    }
