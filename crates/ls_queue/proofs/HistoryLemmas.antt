-- The state of a queue after a history, in terms of the history; and that its replies are the lawful ones.
use Rattle.std.proofs.Common.{◌≡◌, ℕ, ◌+◌, ◌<◌, inl, inr, Bool, true, false, not, ◌&&◌, ◌||◌, List, [], ◌∷◌, ◌++◌, length, filter, drop, set, get_or, flat_map, All, IsTrue, ◌==◌, if◌then◌else◌, refl, sym, ap, subst, ◌∙◌, arith, suc, append-nil, append_assoc, length-append}
use Rattle.std.specs.List.{list_all, range_with_len}
use Rattle.std.proofs.lemmas.Bool.Decides.{eqb_tells, nat_tests}
use Rattle.std.proofs.lemmas.List.{length-set, get_or-set_same, get_or-set_other, get_or-replicate, length-replicate}
use Rattle.std.proofs.lemmas.List.Elements.{All-head, All-tail}
use Rattle.std.proofs.lemmas.List.Folds.{list_any-append}
use Rattle.std.proofs.lemmas.List.Concat.{flat_map-append}
use Rattle.ls_queue.specs.declared.replies.Job.{Job}
use Rattle.ls_queue.specs.declared.replies.Put.{Put}
use Rattle.ls_queue.specs.declared.replies.Put.TheVariants as put
use Rattle.ls_queue.specs.declared.replies.Close.TheVariants as close
use Rattle.ls_queue.specs.declared.steps.Step.{Step}
use Rattle.ls_queue.specs.declared.steps.Step.TheVariants as step
use Rattle.ls_queue.specs.declared.steps.Reply.TheVariants as reply
use Rattle.ls_queue.specs.Queue.{Queue, spent_count, all_true, new_queue, count_of, is_closed, put_reply, after_reply, close_reply, after_close, take_of, take_reply, after_take}
use Rattle.ls_queue.specs.Steps.{is_known, reply_of, after_step, replies_of, after_steps}
use Rattle.ls_queue.specs.History.{Event, history, job_put, job_in, job_taken, job_out, jobs_in, jobs_out, items_of, sent, taken, is_among, held, closes, was_closed, all_were_closed, lawful_reply, AreLawful, IsReplay}
use Rattle.ls_queue.proofs.JobLemmas.{items_of-append, items_of-own, items_of-other, AreNumbered, AreNumbered-none, AreNumbered-one, AreNumbered-append, left_after}
use Rattle.ls_queue.proofs.StepLemmas.{put_reply-number, replies_of-length}

-- The queue after these events: its counts are the numbers of items sent, its closed sources those that were closed, and the jobs accepted are
-- the jobs taken followed by the jobs held.
pub record IsAfter (sources capacity : ℕ) (events : List Event) (q : Queue ℕ) : Type 0 where
  pub room : q.capacity ≡ capacity
  pub size : length q.counts ≡ sources
  pub lines : length q.closed ≡ sources
  pub counts : (s : ℕ) → s < sources → count_of q s ≡ length (sent s events)
  pub closed : (s : ℕ) → s < sources → is_closed q s ≡ was_closed s events
  pub split : jobs_in events ≡ jobs_out events ++ q.held
  pub numbered : AreNumbered [] (jobs_in events)

-- what is held by the history is what the queue holds
pub IsAfter-held : (sources capacity : ℕ) (events : List Event) (q : Queue ℕ) → IsAfter sources capacity events q → held events ≡ q.held
IsAfter-held sources capacity events q after =
    ap (filter (λ job. not (is_among (jobs_out events) job))) after.split
    ∙ left_after (jobs_out events) q.held (subst (AreNumbered []) after.split after.numbered)

-- what was taken, followed by what is held, is what was sent
pub IsAfter-kept : (sources capacity : ℕ) (events : List Event) (q : Queue ℕ) → IsAfter sources capacity events q
    → (s : ℕ) → taken s events ++ items_of s (held events) ≡ sent s events
IsAfter-kept sources capacity events q after s =
    ap (λ jobs. taken s events ++ items_of s jobs) (IsAfter-held sources capacity events q after)
    ∙ sym (items_of-append s (jobs_out events) q.held) ∙ ap (items_of s) (sym after.split)

all_true-range : (flags : List Bool) (a : ℕ) (f : ℕ → Bool) → ((i : ℕ) → i < length flags → get_or flags i false ≡ f (a + i)) → all_true flags ≡ list_all f (range_with_len a (length flags))
all_true-range [] a f same = refl
all_true-range (b ∷ flags) a f same =
    let here : b ≡ f a = same 0 (omega arith) ∙ ap f (omega arith) in
    let rest : all_true flags ≡ list_all f (range_with_len (a + 1) (length flags)) =
    all_true-range flags (a + 1) f (λ i inside. same (suc i) (omega arith) ∙ ap f (omega arith)) in
    ap (λ c. c && all_true flags) here ∙ ap (λ c. f a && c) rest

IsAfter-all_closed : (sources capacity : ℕ) (events : List Event) (q : Queue ℕ) → IsAfter sources capacity events q → all_true q.closed ≡ all_were_closed sources events
IsAfter-all_closed sources capacity events q after =
    all_true-range q.closed 0 (λ s. was_closed s events) (λ i inside. after.closed i (omega (arith, after.lines)) ∙ ap (λ s. was_closed s events) (omega arith))
    ∙ ap (λ n. list_all (λ s. was_closed s events) (range_with_len 0 n)) after.lines

known : (s sources : ℕ) → is_known sources (step.Close s) ≡ true → s < sources
known s sources e = grind (arith, nat_tests)

-- the queue's reply is the lawful one
pub reply_of-lawful : (sources capacity : ℕ) (events : List Event) (q : Queue ℕ) (step : Step) → IsAfter sources capacity events q → IsTrue (is_known sources step)
    → reply_of q step ≡ lawful_reply sources capacity events step
reply_of-lawful sources capacity events q (step.Put s x) after there =
    let closed = after.closed s (known s sources there) in
    let count = after.counts s (known s sources there) in
    let full : length q.held ≡ length (held events) = ap length (sym (IsAfter-held sources capacity events q after)) in
    ap (λ b. reply.Put (if b then put.Closed x else (if count_of q s == spent_count then put.Spent x else (if length q.held == q.capacity then put.Full x else put.Taken (count_of q s))))) closed
    ∙ ap (λ n. reply.Put (if was_closed s events then put.Closed x else (if n == spent_count then put.Spent x else (if length q.held == q.capacity then put.Full x else put.Taken n)))) count
    ∙ ap (λ n. reply.Put (if was_closed s events then put.Closed x else (if length (sent s events) == spent_count then put.Spent x else (if n == q.capacity then put.Full x else put.Taken (length (sent s events)))))) full
    ∙ ap (λ n. reply.Put (if was_closed s events then put.Closed x else (if length (sent s events) == spent_count then put.Spent x else (if length (held events) == n then put.Full x else put.Taken (length (sent s events)))))) after.room
reply_of-lawful sources capacity events q (step.Close s) after there =
    let closed = after.closed s (known s sources there) in
    let count = after.counts s (known s sources there) in
    ap (λ b. reply.Close (if b then close.Already (count_of q s) else close.Now (count_of q s))) closed
    ∙ ap (λ n. reply.Close (if was_closed s events then close.Already n else close.Now n)) count
reply_of-lawful sources capacity events q step.Take after there =
    ap (λ jobs. reply.Take (take_of jobs (all_true q.closed))) (sym (IsAfter-held sources capacity events q after))
    ∙ ap (λ b. reply.Take (take_of (held events) b)) (IsAfter-all_closed sources capacity events q after)

flat_map-push : (f : Event → List (Job ℕ)) (events : List Event) (event : Event) → flat_map f (events ++ event ∷ []) ≡ flat_map f events ++ f event
flat_map-push f events event = flat_map-append f events (event ∷ []) ∙ ap (λ jobs. flat_map f events ++ jobs) (append-nil (f event))

or-false : (b : Bool) → (b || false) ≡ b
or-false true = refl
or-false false = refl

pub was_closed-push : (s : ℕ) (events : List Event) (event : Event) → was_closed s (events ++ event ∷ []) ≡ (was_closed s events || closes s event.step)
was_closed-push s events event =
    list_any-append (λ (one : Event). closes s one.step) events (event ∷ []) ∙ ap (λ b. was_closed s events || b) (or-false (closes s event.step))

-- what an event does to a queue, in terms of the event
record Follows (sources : ℕ) (events : List Event) (q : Queue ℕ) (event : Event) (q' : Queue ℕ) : Type 0 where
  room : q'.capacity ≡ q.capacity
  size : length q'.counts ≡ length q.counts
  lines : length q'.closed ≡ length q.closed
  counts : (s : ℕ) → s < sources → count_of q' s ≡ count_of q s + length (items_of s (job_in event))
  closed : (s : ℕ) → s < sources → is_closed q' s ≡ (is_closed q s || closes s event.step)
  split : q.held ++ job_in event ≡ job_out event ++ q'.held
  numbered : AreNumbered (jobs_in events) (job_in event)

IsAfter-next : (sources capacity : ℕ) (events : List Event) (q : Queue ℕ) (event : Event) (q' : Queue ℕ) → IsAfter sources capacity events q → Follows sources events q event q'
    → IsAfter sources capacity (events ++ event ∷ []) q'
IsAfter-next sources capacity events q event q' after next =
    let all_in : jobs_in (events ++ event ∷ []) ≡ jobs_in events ++ job_in event = flat_map-push job_in events event in
    let all_out : jobs_out (events ++ event ∷ []) ≡ jobs_out events ++ job_out event = flat_map-push job_out events event in
    record {
      room = next.room ∙ after.room;
      size = next.size ∙ after.size;
      lines = next.lines ∙ after.lines;
      counts = λ s below.
          let grown : sent s (events ++ event ∷ []) ≡ sent s events ++ items_of s (job_in event) = ap (items_of s) all_in ∙ items_of-append s (jobs_in events) (job_in event) in
          next.counts s below ∙ ap (λ n. n + length (items_of s (job_in event))) (after.counts s below)
          ∙ sym (ap length grown ∙ length-append (sent s events) (items_of s (job_in event)));
      closed = λ s below. next.closed s below ∙ ap (λ b. b || closes s event.step) (after.closed s below) ∙ sym (was_closed-push s events event);
      split = all_in ∙ ap (λ jobs. jobs ++ job_in event) after.split ∙ append_assoc (jobs_out events) q.held (job_in event)
          ∙ ap (λ jobs. jobs_out events ++ jobs) next.split ∙ sym (append_assoc (jobs_out events) (job_out event) q'.held)
          ∙ ap (λ jobs. jobs ++ q'.held) (sym all_out);
      numbered = subst (AreNumbered []) (sym all_in) (AreNumbered-append [] (jobs_in events) (job_in event) after.numbered next.numbered);
    }

-- a put whose item isn't accepted changes nothing
put_back : (sources : ℕ) (events : List Event) (q : Queue ℕ) (s x : ℕ) (r : Put ℕ) → job_put s x (reply.Put r) ≡ []
    → Follows sources events q (record { step = step.Put s x; reply = reply.Put r }) q
put_back sources events q s x r none = record {
  room = refl;
  size = refl;
  lines = refl;
  counts = λ t below. sym (ap (λ jobs. count_of q t + length (items_of t jobs)) none ∙ omega arith);
  closed = λ t below. sym (or-false (is_closed q t));
  split = ap (λ jobs. q.held ++ jobs) none ∙ append-nil q.held;
  numbered = subst (AreNumbered (jobs_in events)) (sym none) (AreNumbered-none (jobs_in events));
}

-- a put whose item is accepted
put_in : (sources capacity : ℕ) (events : List Event) (q : Queue ℕ) (s x n : ℕ) → IsAfter sources capacity events q → s < sources → n ≡ count_of q s
    → Follows sources events q (record { step = step.Put s x; reply = reply.Put (put.Taken n) }) (after_reply q s x (put.Taken n))
put_in sources capacity events q s x n after below number =
    let job : Job ℕ = record { source = s; number = n; item = x } in
    record {
      room = refl;
      size = length-set q.counts s (n + 1);
      lines = refl;
      counts = λ t there. elim (eqb_tells s t) [
        | inl same ↦
            let counted : get_or (set q.counts s (n + 1)) t 0 ≡ n + 1 = subst (λ k. get_or (set q.counts s (n + 1)) k 0 ≡ n + 1) same.1 (get_or-set_same q.counts s (n + 1) 0 (omega (arith, below, after.size))) in
            let own : items_of t (job ∷ []) ≡ x ∷ [] = subst (λ k. items_of k (job ∷ []) ≡ x ∷ []) same.1 (items_of-own s n x) in
            counted ∙ ap (λ k. k + 1) (number ∙ ap (count_of q) same.1) ∙ ap (λ items. count_of q t + length items) (sym own)
        | inr other ↦
            get_or-set_other q.counts s t (n + 1) 0 (λ e. other.1 (sym e)) ∙ sym (ap (λ items. count_of q t + length items) (items_of-other s t n x other.1) ∙ omega arith)
      ];
      closed = λ t there. sym (or-false (is_closed q t));
      split = refl;
      numbered = AreNumbered-one (jobs_in events) job (number ∙ after.counts s below);
    }

put_event : (sources capacity : ℕ) (events : List Event) (q : Queue ℕ) (s x : ℕ) (r : Put ℕ) → IsAfter sources capacity events q → s < sources → ((n : ℕ) → r ≡ put.Taken n → n ≡ count_of q s)
    → Follows sources events q (record { step = step.Put s x; reply = reply.Put r }) (after_reply q s x r)
put_event sources capacity events q s x (put.Taken n) after below number = put_in sources capacity events q s x n after below (number n refl)
put_event sources capacity events q s x (put.Closed y) after below number = put_back sources events q s x (put.Closed y) refl
put_event sources capacity events q s x (put.Spent y) after below number = put_back sources events q s x (put.Spent y) refl
put_event sources capacity events q s x (put.Full y) after below number = put_back sources events q s x (put.Full y) refl

pub or-true : (b : Bool) → (b || true) ≡ true
or-true true = refl
or-true false = refl

close_event : (sources capacity : ℕ) (events : List Event) (q : Queue ℕ) (s : ℕ) → IsAfter sources capacity events q → s < sources
    → Follows sources events q (record { step = step.Close s; reply = reply.Close (close_reply q s) }) (after_close q s)
close_event sources capacity events q s after below = record {
  room = refl;
  size = refl;
  lines = length-set q.closed s true;
  counts = λ t there. omega arith;
  closed = λ t there. elim (eqb_tells s t) [
    | inl same ↦
        let now : get_or (set q.closed s true) t false ≡ true = subst (λ k. get_or (set q.closed s true) k false ≡ true) same.1 (get_or-set_same q.closed s true false (omega (arith, below, after.lines))) in
        now ∙ sym (or-true (is_closed q t)) ∙ ap (λ b. is_closed q t || b) (sym same.0)
    | inr other ↦
        get_or-set_other q.closed s t true false (λ e. other.1 (sym e)) ∙ sym (or-false (is_closed q t)) ∙ ap (λ b. is_closed q t || b) (sym other.0)
  ];
  split = append-nil q.held;
  numbered = AreNumbered-none (jobs_in events);
}

take_split : (jobs : List (Job ℕ)) (done : Bool) → jobs ++ [] ≡ job_taken (reply.Take (take_of jobs done)) ++ drop 1 jobs
take_split [] true = refl
take_split [] false = refl
take_split (job ∷ jobs) done = append-nil (job ∷ jobs)

take_event : (sources : ℕ) (events : List Event) (q : Queue ℕ) → Follows sources events q (record { step = step.Take; reply = reply.Take (take_reply q) }) (after_take q)
take_event sources events q = record {
  room = refl;
  size = refl;
  lines = refl;
  counts = λ s below. omega arith;
  closed = λ s below. sym (or-false (is_closed q s));
  split = take_split q.held (all_true q.closed);
  numbered = AreNumbered-none (jobs_in events);
}

step_event : (sources capacity : ℕ) (events : List Event) (q : Queue ℕ) (step : Step) → IsAfter sources capacity events q → IsTrue (is_known sources step)
    → Follows sources events q (record { step = step; reply = reply_of q step }) (after_step q step)
step_event sources capacity events q (step.Put s x) after there =
    put_event sources capacity events q s x (put_reply q s x) after (known s sources there) (λ n e. put_reply-number q s x n e)
step_event sources capacity events q (step.Close s) after there = close_event sources capacity events q s after (known s sources there)
step_event sources capacity events q step.Take after there = take_event sources events q

-- one step more
pub IsAfter-step : (sources capacity : ℕ) (events : List Event) (q : Queue ℕ) (step : Step) → IsAfter sources capacity events q → IsTrue (is_known sources step)
    → IsAfter sources capacity (events ++ record { step = step; reply = reply_of q step } ∷ []) (after_step q step)
IsAfter-step sources capacity events q step after there =
    IsAfter-next sources capacity events q (record { step = step; reply = reply_of q step }) (after_step q step) after (step_event sources capacity events q step after there)

-- before the first step
pub IsAfter-new : (sources capacity : ℕ) → IsAfter sources capacity [] (new_queue sources capacity)
IsAfter-new sources capacity = record {
  room = refl;
  size = length-replicate sources 0;
  lines = length-replicate sources false;
  counts = λ s below. get_or-replicate sources s 0 0 below;
  closed = λ s below. get_or-replicate sources s false false below;
  split = refl;
  numbered = AreNumbered-none [];
}

-- the replies of a queue to known steps are lawful, and its state afterwards is that after these events
pub replies_of-lawful : (sources capacity : ℕ) (steps : List Step) (events : List Event) (q : Queue ℕ) → IsAfter sources capacity events q → All (λ step. IsTrue (is_known sources step)) steps
    → AreLawful sources capacity events (history steps (replies_of q steps)) × IsAfter sources capacity (events ++ history steps (replies_of q steps)) (after_steps q steps)
replies_of-lawful sources capacity [] events q after there = (tt, subst (λ all. IsAfter sources capacity all q) (sym (append-nil events)) after)
replies_of-lawful sources capacity (step ∷ steps) events q after there =
    let here : IsTrue (is_known sources step) = All-head (λ one. IsTrue (is_known sources one)) step steps there in
    let event : Event = record { step = step; reply = reply_of q step } in
    let rest = replies_of-lawful sources capacity steps (events ++ event ∷ []) (after_step q step) (IsAfter-step sources capacity events q step after here)
    (All-tail (λ one. IsTrue (is_known sources one)) step steps there) in (
      (reply_of-lawful sources capacity events q step after here, rest.0),
      subst (λ all. IsAfter sources capacity all (after_steps (after_step q step) steps)) (append_assoc events (event ∷ []) (history steps (replies_of (after_step q step) steps))) rest.1,
    )

-- a replay from the start
pub replies_of-replay : (sources capacity : ℕ) (steps : List Step) → All (λ step. IsTrue (is_known sources step)) steps → IsReplay sources capacity steps (replies_of (new_queue sources capacity) steps)
replies_of-replay sources capacity steps there =
    let q : Queue ℕ = new_queue sources capacity in
    let both = replies_of-lawful sources capacity steps [] q (IsAfter-new sources capacity) there in
    record {
      one_each = replies_of-length q steps;
      lawful = both.0;
      kept = IsAfter-kept sources capacity (history steps (replies_of q steps)) (after_steps q steps) both.1;
    }
