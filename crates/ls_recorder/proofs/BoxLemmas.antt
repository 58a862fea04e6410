-- Boxes, as they are made one by one.
use Rattle.std.proofs.Common.{◌≡◌, ℕ, zero, suc, ◌+◌, ◌-◌, ◌^◌, ◌<◌, min, List, [], ◌∷◌, ◌++◌, length, map, take, set, get_or, Some, refl, sym, ap, ◌∙◌, arith, append_assoc, append-nil}
use Rattle.std.specs.Prelude.{Ok, Err, MatchResult}
use Rattle.std.specs.List.{slice_get, sum_by}
use Rattle.std.proofs.lemmas.Option.{same_Some}
use Rattle.std.proofs.lemmas.List.Sums.{sum_by_push}
use Rattle.std.proofs.Math.Seq.{map-set_same, take-suc}
use Rattle.std.proofs.Math.ListN.{get_or-map}
use Rattle.std.proofs.Math.Numerals.{add-one}
use Rattle.std.proofs.lemmas.List.{map-append, length-map, length_push}
use Rattle.ls_queue.specs.declared.replies.Job.{Job}
use Rattle.ls_queue.specs.declared.running.WorkerSeat.{WorkerSeat}
use Rattle.ls_queue.specs.View.Running.{jobs_taken}
use Rattle.ls_pieces.specs.Orders.{Ordered}
use Rattle.ls_recorder.specs.declared.delivery.ends.Outbox.{Outbox}
use Rattle.ls_recorder.specs.declared.delivery.ends.Inbox.{Inbox}
use Rattle.ls_recorder.specs.View.Answers.{Reply, number_of, IsSentTo}
use Rattle.ls_recorder.specs.View.Boxes.{AreFrom, answers_sent, weigh_from, weigh_jobs, AnswersAll}

AreFrom-push_from : (n : ℕ) (inboxes : List Inbox) (inbox : Inbox) → AreFrom n inboxes → inbox.source ≡ n + length inboxes → AreFrom n (inboxes ++ inbox ∷ [])
AreFrom-push_from n [] inbox before is = (let here : inbox.source ≡ n = omega arith in (here, tt))
AreFrom-push_from n (i ∷ inboxes) inbox before is =
    (before.0, AreFrom-push_from (suc n) inboxes inbox before.1 (omega arith))

-- the next source's inbox
pub AreFrom-push : (inboxes : List Inbox) (inbox : Inbox) → AreFrom 0 inboxes → inbox.source ≡ length inboxes → AreFrom 0 (inboxes ++ inbox ∷ [])
AreFrom-push inboxes inbox before is = AreFrom-push_from 0 inboxes inbox before (omega arith)

-- ends of known channels, one more at a time; which channel an end belongs to is a parameter
module _ {X Y C : Type 0} (channel : X → C) (other : Y → C) where
  -- one more on both sides
  pub both-push : (xs : List X) (ys : List Y) (x : X) (y : Y) → map channel xs ≡ map other ys → channel x ≡ other y → map channel (xs ++ x ∷ []) ≡ map other (ys ++ y ∷ [])
  both-push xs ys x y before is =
      map-append channel xs (x ∷ []) ∙ ap (λ l. l ++ channel x ∷ []) before ∙ ap (λ c. map other ys ++ c ∷ []) is ∙ sym (map-append other ys (y ∷ []))

module _ {X C : Type 0} (channel : X → C) where
  -- one more copy
  pub copies-push : (xs zs copies : List X) (k : ℕ) (x d : X) → k < length xs → map channel xs ≡ map channel zs → map channel copies ≡ take k (map channel zs) → channel x ≡ channel (get_or xs k d)
      → map channel (copies ++ x ∷ []) ≡ take (k + 1) (map channel zs)
  copies-push xs zs copies k x d room same before is =
      let inside : k < length (map channel xs) = omega (arith, length-map xs channel, room) in
      let next : take (suc k) (map channel xs) ≡ take k (map channel xs) ++ channel (get_or xs k d) ∷ [] =
      take-suc (map channel xs) k (channel d) inside ∙ ap (λ c. take k (map channel xs) ++ c ∷ []) (get_or-map channel xs k d) in
      map-append channel copies (x ∷ []) ∙ ap (λ l. l ++ channel x ∷ []) (before ∙ ap (take k) (sym same)) ∙ ap (λ c. take k (map channel xs) ++ c ∷ []) is
      ∙ sym next ∙ ap (λ n. take n (map channel xs)) (sym (add-one k)) ∙ ap (take (k + 1)) same

  -- an element is replaced by one of the same channel
  pub channel-set : (xs ys : List X) (k : ℕ) (x d : X) → map channel xs ≡ map channel ys → channel x ≡ channel (get_or xs k d) → map channel (set xs k x) ≡ map channel ys
  channel-set xs ys k x d before is = map-set_same channel xs k x d is ∙ before

-- ---- results that are sent

pub get-map : {X C : Type 0} (f : X → C) (xs : List X) (k : ℕ) (d : X) → k < length xs → slice_get (map f xs) k ≡ Some (f (get_or xs k d))
get-map f [] k d less = absurd (omega (arith, less))
get-map f (x ∷ xs) zero d less = refl
get-map f (x ∷ xs) (suc k) d less = get-map f xs k d (omega (arith, less))

pub weigh-sent : (h : ℕ → ℕ → ℕ) (s k : ℕ) (all : List (List Reply)) (own : List Reply) (reply : Reply) → slice_get all k ≡ Some own
    → weigh_from h s (set all k (own ++ reply ∷ [])) ≡ weigh_from h s all + h (s + k) (number_of reply)
weigh-sent h s k [] own reply is = let clash : ⊥ = cc in absurd clash
weigh-sent h s zero (sent ∷ all) own reply is =
    let same : sum_by (λ (r : Reply). h s (number_of r)) sent ≡ sum_by (λ (r : Reply). h s (number_of r)) own = ap (sum_by (λ (r : Reply). h s (number_of r))) (same_Some sent own is) in
    let here : h (s + 0) (number_of reply) ≡ h s (number_of reply) = ap (λ n. h n (number_of reply)) (omega arith) in
    omega (arith, same, here, sum_by_push (λ (r : Reply). h s (number_of r)) own reply)
weigh-sent h s (suc k) (sent ∷ all) own reply is =
    let there : h (suc s + k) (number_of reply) ≡ h (s + suc k) (number_of reply) = ap (λ n. h n (number_of reply)) (omega arith) in
    omega (arith, there, weigh-sent h (suc s) k all own reply is)

-- it is the result of this job
abbrev pub IsOf : Job Ordered → Reply → Type 0
IsOf j reply = MatchResult reply (λ piece. piece ≡ j) (λ uncoded. (uncoded.source ≡ j.source) × (uncoded.number ≡ j.number))

number-of : (j : Job Ordered) (reply : Reply) → IsOf j reply → number_of reply ≡ j.number
number-of j (Ok piece) is = ap (λ (i : Job Ordered). i.number) is
number-of j (Err uncoded) is = is.1

module _ (seat seat' seat'' : WorkerSeat Ordered) (outbox outbox' outbox'' : Outbox) (undelivered undelivered' : ℕ) (before : AnswersAll seat seat' outbox outbox' undelivered)
    (j : Job Ordered) (more : jobs_taken seat'' ≡ jobs_taken seat' ++ j ∷ []) where
  answered-jobs : jobs_taken seat'' ≡ jobs_taken seat ++ (before.jobs ++ j ∷ [])
  answered-jobs = more ∙ ap (λ l. l ++ j ∷ []) before.taken ∙ append_assoc (jobs_taken seat) before.jobs (j ∷ [])

  -- one more job was taken, and its result was sent
  pub answers-sent : (reply : Reply) → IsOf j reply → IsSentTo (answers_sent outbox') j.source reply (answers_sent outbox'') → undelivered' ≡ undelivered
      → AnswersAll seat seat'' outbox outbox'' undelivered'
  answers-sent reply of sent same = record {
    jobs = before.jobs ++ j ∷ [];
    taken = answered-jobs;
    lost = before.lost;
    each = λ h.
        let old = before.each h in
        let now = ap (weigh_from h 0) sent.2 ∙ weigh-sent h 0 j.source (answers_sent outbox') sent.0 reply sent.1 in
        let weight : h (0 + j.source) (number_of reply) ≡ h j.source j.number = ap (λ n. h n (number_of reply)) (omega arith) ∙ ap (h j.source) (number-of j reply of) in
        omega (arith, old, now, weight, sum_by_push (λ (i : Job Ordered). h i.source i.number) before.jobs j);
    counted = same ∙ before.counted;
  }

  -- one more job was taken, and its result came back
  pub answers-lost : answers_sent outbox'' ≡ answers_sent outbox' → undelivered' ≡ min (undelivered + 1) (2 ^ 64 - 1) → AnswersAll seat seat'' outbox outbox'' undelivered'
  answers-lost same count = record {
    jobs = before.jobs ++ j ∷ [];
    taken = answered-jobs;
    lost = before.lost ++ j ∷ [];
    each = λ h.
        let old = before.each h in
        let now = ap (weigh_from h 0) same in
        let weight = λ (i : Job Ordered). h i.source i.number in
        omega (arith, old, now, sum_by_push weight before.jobs j, sum_by_push weight before.lost j);
    counted = (let old = before.counted in omega (arith, old, count, length_push before.lost j));
  }

pub answers-none : (seat : WorkerSeat Ordered) (outbox : Outbox) → AnswersAll seat seat outbox outbox 0
answers-none seat outbox = record { jobs = []; taken = sym (append-nil (jobs_taken seat)); lost = []; each = λ h. refl; counted = refl }
