use Rattle.std.proofs.Common.{◌≡◌, ℕ, ◌+◌, ◌≤◌, length, min, refl, ap, ◌∙◌, arith, rules}
use Rattle.std.proofs.lemmas.List.{length_push}
use Rattle.ls_queue.specs.View.Running.{jobs_taken}
use Rattle.ls_recorder.proofs.working.work.Goals.{then-is_ok, else-is_ok}
use Rattle.ls_recorder.proofs.BoxLemmas.{answers-none, answers-sent, answers-lost}
use Rattle.ls_recorder.proofs.working.work.Goals as goal

-- one more job was taken, and at most one more is counted
one-more : (n k k' m m' top : ℕ) → m' ≡ m + 1 → k' ≡ min (k + 1) top → n + k ≤ m → n + k' ≤ m'
one-more n k k' m m' top size is before = omega arith

pub loop-preserved : goal.loop-preserved
loop-preserved g c =
    let inv = c.loop.invariant in
    let size = ap length c.in-Job.ensures.taken.2 ∙ length_push (jobs_taken c.loop.seat) c.in-Job.job in
    record {
      next = tt;
      goes_on = tt;
      seat = c.in-Job.ensures.seat;
      boxes = omega (arith, inv.boxes, c.send.ensures.sources);
      coded = elim c.if-is_ok.branch [
        | then-is_ok w ↦ one-more _ _ _ _ _ _ size (w.coded-is ∙ w.saturating_add-coded.ensures) inv.coded
        | else-is_ok w ↦ omega (arith, inv.coded, size, w.coded-is)
      ];
      answered = answers-sent _ _ _ _ _ _ _ _ inv.answered c.in-Job.job c.in-Job.ensures.taken.2 c.code-answer.result c.code-answer.ensures (search rules) refl;
    }

pub loop-preserved-then-is_err : goal.loop-preserved-then-is_err
loop-preserved-then-is_err g c =
    let inv = c.loop.invariant in
    let size = ap length c.in-Job.ensures.taken.2 ∙ length_push (jobs_taken c.loop.seat) c.in-Job.job in
    record {
      next = tt;
      goes_on = tt;
      seat = c.in-Job.ensures.seat;
      boxes = omega (arith, inv.boxes, c.send.ensures.sources);
      coded = elim c.if-is_ok.branch [
        | then-is_ok w ↦ one-more _ _ _ _ _ _ size (w.coded-is ∙ w.saturating_add-coded.ensures) inv.coded
        | else-is_ok w ↦ omega (arith, inv.coded, size, w.coded-is)
      ];
      answered = answers-lost _ _ _ _ _ _ _ _ inv.answered c.in-Job.job c.in-Job.ensures.taken.2 (search rules) c.saturating_add-undelivered.ensures;
    }

pub loop-init : goal.loop-init
loop-init g c = record {
  next = tt;
  goes_on = tt;
  seat = c.requires.seat;
  boxes = c.requires.boxes;
  coded = omega arith;
  answered = answers-none _ _;
}
