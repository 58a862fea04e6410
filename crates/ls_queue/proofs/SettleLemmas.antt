-- How worker seats are joined, and what the holder of the last pass knows.
use Rattle.std.proofs.Common.{◌≡◌, ℕ, suc, ◌+◌, ◌≤◌, Bool, true, false, true≢false, ◌&&◌, List, [], ◌∷◌, ◌++◌, length, refl, sym, ap, subst, ◌∙◌, arith, append_assoc, append-nil}
use Rattle.std.specs.List.{AllByRecursion}
use Rattle.crossbeam_channel.specs.Fifo.{Merges, Learns}
use Rattle.ls_queue.specs.declared.replies.Job.{Job}
use Rattle.ls_queue.specs.declared.views.Message.{Message}
use Rattle.ls_queue.specs.declared.views.Puts.{Puts}
use Rattle.ls_queue.specs.declared.views.Takes.{Takes}
use Rattle.ls_queue.specs.declared.views.View.{View}
use Rattle.ls_queue.specs.declared.running.WorkerSeat.{WorkerSeat}
use Rattle.ls_queue.specs.View.Account.{Kept, worker_view, ending_view, joined, spent_view, with_takes, IsSettled}
use Rattle.ls_queue.specs.View.Running.{takes_of, all_done, is_done, jobs_taken}
use Rattle.ls_queue.proofs.AccountSeats.{joins, settles}

and_left : (a b : Bool) → (a && b) ≡ true → a ≡ true
and_left true b h = refl
and_left false b h = h

and_right : (a b : Bool) → (a && b) ≡ true → b ≡ true
and_right true b h = h
and_right false b h = absurd (true≢false (sym h))

module _ {X : Type 0} where
  pub seat_joins : (p : ℕ) (v : View X) (other : ℕ) (u : View X) (s : ℕ) (jobs : List (Job X)) (done : Bool) → v.closes ≡ true → u ≡ worker_view s jobs done → Merges Kept p v other u (joined v u) spent_view
  seat_joins p v other u s jobs done closes is = joins p v other u closes (ap (λ (y : View X). y.closes) is)

  pub seat_closes : (v u n : View X) → v.closes ≡ true → n ≡ joined v u → n.closes ≡ true
  seat_closes v u n closes made = ap (λ (y : View X). y.closes) made ∙ closes

  pub seat_known : (v u n : View X) (s : ℕ) (seat : WorkerSeat X) (rest old : List (WorkerSeat X)) → u ≡ worker_view s (jobs_taken seat) (is_done seat) → n ≡ joined v u → old ≡ seat ∷ rest
      → with_takes n (takes_of rest) ≡ with_takes v (takes_of old)
  seat_known v u n s seat rest old is made first =
      let p : Takes X = record { jobs = jobs_taken seat; marked = is_done seat } in
      let n' : n ≡ joined v (worker_view s (jobs_taken seat) (is_done seat)) = made ∙ ap (joined v) is in
      let shares : v.shares + 1 + length (takes_of rest) ≡ v.shares + length (p ∷ takes_of rest) = omega arith in
      let takes : (v.takes ++ p ∷ []) ++ takes_of rest ≡ v.takes ++ p ∷ takes_of rest = append_assoc v.takes (p ∷ []) (takes_of rest) in
      let puts : v.puts ++ [] ≡ v.puts = append-nil v.puts in
      ap (λ y. with_takes y (takes_of rest)) n' ∙ ((λ i. record v { shares = shares i; takes = takes i; puts = puts i }) ∙ ap (λ l. with_takes v (takes_of l)) (sym first))

  pub seats_known : (v w : View X) (left all : List (WorkerSeat X)) → left ≡ [] → with_takes v (takes_of left) ≡ with_takes w (takes_of all) → v ≡ with_takes w (takes_of all)
  seats_known v w left all none known =
      let same : v ≡ with_takes v [] = (let shares : v.shares ≡ v.shares + 0 = omega arith in λ i. record v { shares = shares i; takes = sym (append-nil v.takes) i }) in
      same ∙ (ap (λ l. with_takes v (takes_of l)) (sym none) ∙ known)

  length-takes_of : (seats : List (WorkerSeat X)) → length (takes_of seats) ≡ length seats
  length-takes_of [] = refl
  length-takes_of (seat ∷ seats) = ap suc (length-takes_of seats)

  takes_done : (seats : List (WorkerSeat X)) → all_done seats ≡ true → AllByRecursion (λ (u : Takes X). u.marked ≡ true) (takes_of seats)
  takes_done [] done = tt
  takes_done (seat ∷ seats) done = (and_left (is_done seat) (all_done seats) done, takes_done seats (and_right (is_done seat) (all_done seats) done))

  -- what the holder of the last pass knows, once the seats of all workers are joined to a finished queue's pass
  pub last_known : (f v : View X) (m s w : ℕ) (puts : List (Puts X)) (seats : List (WorkerSeat X)) → f ≡ ending_view m puts s w w → v ≡ with_takes f (takes_of seats)
      → v ≡ record { shares = m + length (takes_of seats); puts = puts; takes = takes_of seats; closes = true; sources = s; workers = w; marks = w }
  last_known f v m s w puts seats is made = made ∙ ap (λ y. with_takes y (takes_of seats)) is

  pub last_learns : (p : ℕ) (f v : View X) (m s w : ℕ) (puts : List (Puts X)) (seats : List (WorkerSeat X)) → f ≡ ending_view m puts s w w → v ≡ with_takes f (takes_of seats)
      → 64 ≤ m + w → 1 ≤ w → w ≤ length seats → all_done seats ≡ true → Learns Kept p v (λ items. IsSettled v items)
  last_learns p f v m s w puts seats is made left some enough done =
      let known = last_known f v m s w puts seats is made in
      let size = length-takes_of seats in
      let Q : View X → Type 0 = λ y. Learns Kept p y (λ items. IsSettled y items) in
      subst Q (sym known) (settles p _ refl (omega arith) (omega arith) (omega arith) (takes_done seats done))

  pub last_settled : (f v : View X) (m s w : ℕ) (puts : List (Puts X)) (seats : List (WorkerSeat X)) (items : List (Message X)) → f ≡ ending_view m puts s w w → v ≡ with_takes f (takes_of seats)
      → IsSettled v items → IsSettled (record { shares = m + length (takes_of seats); puts = puts; takes = takes_of seats; closes = true; sources = s; workers = w; marks = w }) items
  last_settled f v m s w puts seats items is made settled = subst (λ (y : View X). IsSettled y items) (last_known f v m s w puts seats is made) settled
