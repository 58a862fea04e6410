-- What follows from lawful replies.
use Rattle.std.proofs.Common.{◌≡◌, ◌≢◌, ℕ, ◌<◌, inl, inr, Bool, true, false, ◌||◌, List, [], ◌∷◌, ◌++◌, length, drop, set, get_or, All, IsTrue, ◌==◌, if◌then◌else◌, refl, sym, ap, subst, ◌∙◌, arith, suc, zero, append-nil, append_assoc}
use Rattle.std.specs.List.{range_with_len}
use Rattle.std.proofs.lemmas.Bool.{eq-eqb}
use Rattle.std.proofs.lemmas.Bool.Decides.{eqb_tells, nat_tests}
use Rattle.std.proofs.lemmas.List.Elements.{All-head, All-tail, All-nil, All-cons}
use Rattle.std.proofs.lemmas.List.Folds.{list_any-append}
use Rattle.std.proofs.lemmas.List.Concat.{flat_map-append}
use Rattle.ls_queue.specs.declared.replies.Job.{Job}
use Rattle.ls_queue.specs.declared.replies.Put.TheVariants as put
use Rattle.ls_queue.specs.declared.replies.Take.TheVariants as take
use Rattle.ls_queue.specs.declared.steps.Step.{Step}
use Rattle.ls_queue.specs.declared.steps.Step.TheVariants as step
use Rattle.ls_queue.specs.declared.steps.Reply.{Reply}
use Rattle.ls_queue.specs.declared.steps.Reply.TheVariants as reply
use Rattle.ls_queue.specs.Queue.{Queue, spent_count, all_true, new_queue, count_of, is_closed, put_reply, after_reply, take_of, numbers_of}
use Rattle.ls_queue.specs.Steps.{is_known, reply_of, after_step, replies_of}
use Rattle.ls_queue.specs.History.{Event, event, history, job_put, job_in, jobs_in, jobs_out, items_of, sent, taken, held, closes, was_closed, lawful_reply, AreLawful, IsHistory}
use Rattle.ls_queue.proofs.JobLemmas.{items_of-append, items_of-other, AreNumbered, AreNumbered-front, numbers_in_order}
use Rattle.ls_queue.proofs.HistoryLemmas.{IsAfter, IsAfter-new, IsAfter-step, IsAfter-kept, IsAfter-held, reply_of-lawful, was_closed-push, or-true}

-- the replies of a history are those of the queue
pub only_lawful : (sources capacity : ℕ) (steps : List Step) (replies : List Reply) (before : List Event) (q : Queue ℕ) → IsAfter sources capacity before q
    → All (λ one. IsTrue (is_known sources one)) steps → length replies ≡ length steps → AreLawful sources capacity before (history steps replies) → replies ≡ replies_of q steps
only_lawful sources capacity [] [] before q after there size lawful = refl
only_lawful sources capacity [] (reply ∷ replies) before q after there size lawful = absurd (omega (arith, size))
only_lawful sources capacity (step ∷ steps) [] before q after there size lawful = absurd (omega (arith, size))
only_lawful sources capacity (step ∷ steps) (reply ∷ replies) before q after there size lawful =
    let here : IsTrue (is_known sources step) = All-head (λ one. IsTrue (is_known sources one)) step steps there in
    let first : reply ≡ reply_of q step = lawful.0 ∙ sym (reply_of-lawful sources capacity before q step after here) in
    let next : IsAfter sources capacity (before ++ event step reply ∷ []) (after_step q step) =
    subst (λ r. IsAfter sources capacity (before ++ event step r ∷ []) (after_step q step)) (sym first) (IsAfter-step sources capacity before q step after here) in
    let rest : replies ≡ replies_of (after_step q step) steps =
    only_lawful sources capacity steps replies (before ++ event step reply ∷ []) (after_step q step) next (All-tail (λ one. IsTrue (is_known sources one)) step steps there) (omega (arith, size)) lawful.1 in
    ap (λ r. r ∷ replies) first ∙ ap (λ all. reply_of q step ∷ all) rest

after_events : Queue ℕ → List Event → Queue ℕ
after_events q [] = q
after_events q (one ∷ events) = after_events (after_step q one.step) events

-- the queue after events that have their lawful replies
IsAfter-events : (sources capacity : ℕ) (before : List Event) (q : Queue ℕ) (events : List Event) → IsAfter sources capacity before q
    → All (λ (one : Event). IsTrue (is_known sources one.step)) events → AreLawful sources capacity before events → IsAfter sources capacity (before ++ events) (after_events q events)
unfolding after_events
IsAfter-events sources capacity before q [] after there lawful = subst (λ all. IsAfter sources capacity all q) (sym (append-nil before)) after
IsAfter-events sources capacity before q (one ∷ events) after there lawful =
    let here : IsTrue (is_known sources one.step) = All-head (λ (e : Event). IsTrue (is_known sources e.step)) one events there in
    let first : one.reply ≡ reply_of q one.step = lawful.0 ∙ sym (reply_of-lawful sources capacity before q one.step after here) in
    let next : IsAfter sources capacity (before ++ one ∷ []) (after_step q one.step) =
    subst (λ r. IsAfter sources capacity (before ++ event one.step r ∷ []) (after_step q one.step)) (sym first) (IsAfter-step sources capacity before q one.step after here) in
    subst (λ all. IsAfter sources capacity all (after_events (after_step q one.step) events)) (append_assoc before (one ∷ []) events)
    (IsAfter-events sources capacity (before ++ one ∷ []) (after_step q one.step) events next (All-tail (λ (e : Event). IsTrue (is_known sources e.step)) one events there) lawful.1)

IsAfter-history : (sources capacity : ℕ) (events : List Event) → IsHistory sources capacity events → IsAfter sources capacity events (after_events (new_queue sources capacity) events)
IsAfter-history sources capacity events all = IsAfter-events sources capacity [] (new_queue sources capacity) events (IsAfter-new sources capacity) all.known all.lawful

pub handed_out_in_order : (sources capacity : ℕ) (events : List Event) → IsHistory sources capacity events → (s : ℕ) → taken s events ++ items_of s (held events) ≡ sent s events
handed_out_in_order sources capacity events all s =
    IsAfter-kept sources capacity events (after_events (new_queue sources capacity) events) (IsAfter-history sources capacity events all) s

pub handed_out_once : (sources capacity : ℕ) (events : List Event) → IsHistory sources capacity events
    → (s : ℕ) → numbers_of s (jobs_out events) ≡ range_with_len 0 (length (taken s events))
handed_out_once sources capacity events all s =
    let after = IsAfter-history sources capacity events all in
    numbers_in_order s [] (jobs_out events) (AreNumbered-front [] (jobs_out events) (after_events (new_queue sources capacity) events).held (subst (AreNumbered []) after.split after.numbered))

-- lawful events, cut in two
AreLawful-front : (sources capacity : ℕ) (before xs ys : List Event) → AreLawful sources capacity before (xs ++ ys) → AreLawful sources capacity before xs
AreLawful-front sources capacity before [] ys lawful = tt
AreLawful-front sources capacity before (x ∷ xs) ys lawful = (lawful.0, AreLawful-front sources capacity (before ++ x ∷ []) xs ys lawful.1)

AreLawful-back : (sources capacity : ℕ) (before xs ys : List Event) → AreLawful sources capacity before (xs ++ ys) → AreLawful sources capacity (before ++ xs) ys
AreLawful-back sources capacity before [] ys lawful = subst (λ b. AreLawful sources capacity b ys) (sym (append-nil before)) lawful
AreLawful-back sources capacity before (x ∷ xs) ys lawful =
    subst (λ b. AreLawful sources capacity b ys) (append_assoc before (x ∷ []) xs) (AreLawful-back sources capacity (before ++ x ∷ []) xs ys lawful.1)

-- after a close its source is closed
was_closed-here : (s : ℕ) (before : List Event) (close : Reply) (between : List Event) → was_closed s (before ++ event (step.Close s) close ∷ between) ≡ true
was_closed-here s before close between =
    list_any-append (λ (one : Event). closes s one.step) before (event (step.Close s) close ∷ between)
    ∙ ap (λ b. was_closed s before || (b || was_closed s between)) (eq-eqb s s refl)
    ∙ or-true (was_closed s before)

-- a put of a closed source returns Closed
closed_put : (sources capacity s x : ℕ) (before : List Event) (r : Reply) → was_closed s before ≡ true → r ≡ lawful_reply sources capacity before (step.Put s x) → r ≡ reply.Put (put.Closed x)
closed_put sources capacity s x before r closed lawful =
    lawful ∙ ap (λ b. reply.Put (if b then put.Closed x else (if length (sent s before) == spent_count then put.Spent x else (if length (held before) == capacity then put.Full x else put.Taken (length (sent s before)))))) closed

pub closed_after_close : (sources capacity s x : ℕ) (before between later : List Event) (close r : Reply)
    → AreLawful sources capacity [] (before ++ event (step.Close s) close ∷ between ++ event (step.Put s x) r ∷ later) → r ≡ reply.Put (put.Closed x)
closed_after_close sources capacity s x before between later close r lawful =
    let here = AreLawful-back sources capacity [] (before ++ event (step.Close s) close ∷ between) (event (step.Put s x) r ∷ later) lawful in
    closed_put sources capacity s x (before ++ event (step.Close s) close ∷ between) r (was_closed-here s before close between) here.0

job_put-other : (s t x : ℕ) (r : Reply) → t ≢ s → items_of s (job_put t x r) ≡ []
job_put-other s t x (reply.Put (put.Taken n)) other = items_of-other t s n x other
job_put-other s t x (reply.Put (put.Closed y)) other = refl
job_put-other s t x (reply.Put (put.Spent y)) other = refl
job_put-other s t x (reply.Put (put.Full y)) other = refl
job_put-other s t x (reply.Close r) other = refl
job_put-other s t x (reply.Take r) other = refl

nothing_in : (sources capacity s : ℕ) (before : List Event) (st : Step) (r : Reply) → was_closed s before ≡ true → r ≡ lawful_reply sources capacity before st → items_of s (job_in (event st r)) ≡ []
nothing_in sources capacity s before (step.Put t x) r closed lawful =
    elim (eqb_tells t s) [
      | inl same ↦
          let closed_t : was_closed t before ≡ true = subst (λ k. was_closed k before ≡ true) (sym same.1) closed in
          ap (λ one. items_of s (job_put t x one)) (closed_put sources capacity t x before r closed_t lawful)
      | inr other ↦ job_put-other s t x r other.1
    ]
nothing_in sources capacity s before (step.Close t) r closed lawful = refl
nothing_in sources capacity s before step.Take r closed lawful = refl

or-true_left : (a b : Bool) → a ≡ true → (a || b) ≡ true
or-true_left a b e = ap (λ c. c || b) e

nothing_in_all : (sources capacity s : ℕ) (before events : List Event) → was_closed s before ≡ true → AreLawful sources capacity before events → items_of s (jobs_in events) ≡ []
nothing_in_all sources capacity s before [] closed lawful = refl
nothing_in_all sources capacity s before (one ∷ events) closed lawful =
    let still : was_closed s (before ++ one ∷ []) ≡ true = was_closed-push s before one ∙ or-true_left (was_closed s before) (closes s one.step) closed in
    items_of-append s (job_in one) (jobs_in events)
    ∙ ap (λ all. all ++ items_of s (jobs_in events)) (nothing_in sources capacity s before one.step one.reply closed lawful.0)
    ∙ nothing_in_all sources capacity s (before ++ one ∷ []) events still lawful.1

pub sent_by_close : (sources capacity s : ℕ) (before later : List Event) (close : Reply) → AreLawful sources capacity [] (before ++ event (step.Close s) close ∷ later)
    → sent s (before ++ event (step.Close s) close ∷ later) ≡ sent s before
sent_by_close sources capacity s before later close lawful =
    let here = AreLawful-back sources capacity [] before (event (step.Close s) close ∷ later) lawful in
    let none : items_of s (jobs_in later) ≡ [] = nothing_in_all sources capacity s (before ++ event (step.Close s) close ∷ []) later (was_closed-here s before close []) here.1 in
    ap (items_of s) (flat_map-append job_in before (event (step.Close s) close ∷ later))
    ∙ items_of-append s (jobs_in before) (jobs_in later) ∙ ap (λ all. sent s before ++ all) none ∙ append-nil (sent s before)

-- a queue that is done: it holds nothing, and each source is closed
record IsDone (q : Queue ℕ) : Type 0 where
  empty : q.held ≡ []
  closed : all_true q.closed ≡ true

done_of : (jobs : List (Job ℕ)) (b : Bool) → take.Done ≡ take_of jobs b → (jobs ≡ []) × (b ≡ true)
done_of [] true e = (refl, refl)
done_of [] false e = cc
done_of (job ∷ jobs) b e = (cc, cc)

all_true-at : (flags : List Bool) (i : ℕ) → all_true flags ≡ true → i < length flags → get_or flags i false ≡ true
all_true-at [] i all inside = absurd (omega (arith, inside))
all_true-at (true ∷ flags) zero all inside = refl
all_true-at (true ∷ flags) (suc i) all inside = all_true-at flags i all (omega (arith, inside))
all_true-at (false ∷ flags) i all inside = cc

all_true-set : (flags : List Bool) (i : ℕ) → all_true flags ≡ true → all_true (set flags i true) ≡ true
all_true-set [] i all = refl
all_true-set (true ∷ flags) zero all = all
all_true-set (true ∷ flags) (suc i) all = all_true-set flags i all
all_true-set (false ∷ flags) i all = cc

known : (s sources : ℕ) → is_known sources (step.Close s) ≡ true → s < sources
known s sources e = grind (arith, nat_tests)

IsDone-step : (q : Queue ℕ) (st : Step) → IsDone q → IsTrue (is_known (length q.closed) st) → IsDone (after_step q st)
IsDone-step q (step.Put s x) done there =
    let closed : is_closed q s ≡ true = all_true-at q.closed s done.closed (known s (length q.closed) there) in
    let back : put_reply q s x ≡ put.Closed x =
    ap (λ b. if b then put.Closed x else (if count_of q s == spent_count then put.Spent x else (if length q.held == q.capacity then put.Full x else put.Taken (count_of q s)))) closed in
    subst (λ r. IsDone (after_reply q s x r)) (sym back) done
IsDone-step q (step.Close s) done there = record { empty = done.empty; closed = all_true-set q.closed s done.closed }
IsDone-step q step.Take done there = record { empty = ap (drop 1) done.empty; closed = done.closed }

IsDone-events : (sources capacity : ℕ) (before : List Event) (q : Queue ℕ) (events : List Event) → IsAfter sources capacity before q → IsDone q
    → All (λ (one : Event). IsTrue (is_known sources one.step)) events → AreLawful sources capacity before events → IsDone (after_events q events)
unfolding after_events
IsDone-events sources capacity before q [] after done there lawful = done
IsDone-events sources capacity before q (one ∷ events) after done there lawful =
    let here : IsTrue (is_known sources one.step) = All-head (λ (e : Event). IsTrue (is_known sources e.step)) one events there in
    let first : one.reply ≡ reply_of q one.step = lawful.0 ∙ sym (reply_of-lawful sources capacity before q one.step after here) in
    let next : IsAfter sources capacity (before ++ one ∷ []) (after_step q one.step) =
    subst (λ r. IsAfter sources capacity (before ++ event one.step r ∷ []) (after_step q one.step)) (sym first) (IsAfter-step sources capacity before q one.step after here) in
    IsDone-events sources capacity (before ++ one ∷ []) (after_step q one.step) events next
    (IsDone-step q one.step done (subst (λ n. IsTrue (is_known n one.step)) (sym after.lines) here))
    (All-tail (λ (e : Event). IsTrue (is_known sources e.step)) one events there) lawful.1

All-front : (P : Event → Type 0) (xs ys : List Event) → All P (xs ++ ys) → All P xs
All-front P [] ys all = All-nil P
All-front P (x ∷ xs) ys all = All-cons P x xs (All-head P x (xs ++ ys) all) (All-front P xs ys (All-tail P x (xs ++ ys) all))

All-back : (P : Event → Type 0) (xs ys : List Event) → All P (xs ++ ys) → All P ys
All-back P [] ys all = all
All-back P (x ∷ xs) ys all = All-back P xs ys (All-tail P x (xs ++ ys) all)

pub all_taken_once_done : (sources capacity : ℕ) (before later : List Event) → IsHistory sources capacity (before ++ event step.Take (reply.Take take.Done) ∷ later)
    → (s : ℕ) → taken s (before ++ event step.Take (reply.Take take.Done) ∷ later) ≡ sent s (before ++ event step.Take (reply.Take take.Done) ∷ later)
all_taken_once_done sources capacity before later all s =
    let P : Event → Type 0 = λ one. IsTrue (is_known sources one.step) in
    let last : List Event = event step.Take (reply.Take take.Done) ∷ later in
    let q : Queue ℕ = after_events (new_queue sources capacity) before in
    let after : IsAfter sources capacity before q = IsAfter-events sources capacity [] (new_queue sources capacity) before (IsAfter-new sources capacity) (All-front P before last all.known)
    (AreLawful-front sources capacity [] before last all.lawful) in
    let lawful : AreLawful sources capacity before last = AreLawful-back sources capacity [] before last all.lawful in
    let reply_is : reply.Take take.Done ≡ reply.Take (take_of q.held (all_true q.closed)) = lawful.0 ∙ sym (reply_of-lawful sources capacity before q step.Take after refl) in
    let both : (q.held ≡ []) × (all_true q.closed ≡ true) = done_of q.held (all_true q.closed) (cc) in
    let done : IsDone (after_events q last) = IsDone-events sources capacity before q last after (record { empty = both.0; closed = both.1 }) (All-back P before last all.known) lawful in
    let whole : IsAfter sources capacity (before ++ last) (after_events q last) = IsAfter-events sources capacity before q last after (All-back P before last all.known) lawful in
    sym (append-nil (taken s (before ++ last))) ∙ ap (λ jobs. taken s (before ++ last) ++ items_of s jobs) (sym (IsAfter-held sources capacity (before ++ last) (after_events q last) whole ∙ done.empty))
    ∙ IsAfter-kept sources capacity (before ++ last) (after_events q last) whole s
