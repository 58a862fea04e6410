-- A settled queue of one source and one worker: what was taken is what was put, in order.
use Rattle.std.proofs.Common.{◌≡◌, ℕ, suc, ◌<◌, ◌≤◌, ◌==◌, inl, inr, true, List, [], ◌∷◌, length, map, refl, sym, ap, subst, ◌∙◌, arith}
use Rattle.std.specs.List.{sum_by, AllByRecursion}
use Rattle.std.proofs.lemmas.Bool.{eq-eqb}
use Rattle.std.proofs.lemmas.List.Sums.{sum_by-cons}
use Rattle.ls_queue.specs.declared.replies.Job.{Job}
use Rattle.ls_queue.specs.declared.views.Puts.{Puts}
use Rattle.ls_queue.specs.declared.running.Queue.{Queue}
use Rattle.ls_queue.specs.declared.running.Finished.{Finished}
use Rattle.ls_queue.specs.declared.running.WorkerSeat.{WorkerSeat}
use Rattle.ls_queue.specs.declared.running.Ended.{Ended}
use Rattle.ls_queue.specs.View.Account.{IsWithin, numbered, jobs_of}
use Rattle.ls_queue.specs.View.Running.{sources_of, jobs_taken, items_ended, puts_of, parts_of, Balances}

module _ {X : Type 0} where
  within-length : (xs ys : List (Job X)) → IsWithin xs ys → length xs ≤ length ys
  within-length [] ys within = omega arith
  within-length (x ∷ xs) [] within = absurd within
  within-length (x ∷ xs) (y ∷ ys) (inl same) = omega (arith, within-length xs ys same.1)
  within-length (x ∷ xs) (y ∷ ys) (inr later) = omega (arith, within-length (x ∷ xs) ys later)

  -- a sublist that is as long as its list is that list
  within-all : (xs ys : List (Job X)) → IsWithin xs ys → length xs ≡ length ys → xs ≡ ys
  within-all [] [] within size = refl
  within-all [] (y ∷ ys) within size = absurd (omega (arith, size))
  within-all (x ∷ xs) [] within size = absurd within
  within-all (x ∷ xs) (y ∷ ys) (inl same) size = ap (λ z. z ∷ xs) same.0 ∙ ap (λ l. y ∷ l) (within-all xs ys same.1 (omega (arith, size)))
  within-all (x ∷ xs) (y ∷ ys) (inr later) size = (let more = within-length (x ∷ xs) ys later in absurd (omega (arith, size, more)))

  -- if there is one source, all jobs are of that source
  jobs-of-first : (s : ℕ) → s ≡ 0 → (jobs : List (Job X)) → AllByRecursion (λ (j : Job X). j.source < 1) jobs → jobs_of s jobs ≡ jobs
  jobs-of-first s is [] all = refl
  jobs-of-first s is (j ∷ jobs) all =
      let own : (j.source == s) ≡ true = eq-eqb j.source s (omega (arith, all.0, is)) in
      rw own (ap (λ l. j ∷ l) (jobs-of-first s is jobs all.1))

  items-numbered : (s n : ℕ) (items : List X) → map (λ (j : Job X). j.item) (numbered s n items) ≡ items
  items-numbered s n [] = refl
  items-numbered s n (x ∷ items) = ap (λ l. x ∷ l) (items-numbered s (suc n) items)

  count-ones : (jobs : List (Job X)) → sum_by (λ (j : Job X). 1) jobs ≡ length jobs
  count-ones [] = refl
  count-ones (j ∷ jobs) = omega (arith, sum_by-cons (λ (k : Job X). 1) j jobs, count-ones jobs)

  pub handed-over : (queue : Queue X) (finished : Finished X) (seat : WorkerSeat X) (counts : List ℕ) (ended : Ended X) → sources_of queue ≡ 1 → Balances queue finished (seat ∷ []) counts
      → puts_of finished ≡ parts_of (ended ∷ []) → ended.source < sources_of queue → map (λ (j : Job X). j.item) (jobs_taken seat) ≡ items_ended ended
  handed-over queue finished seat counts ended one balances puts known =
      let first : ended.source ≡ 0 = omega (arith, one, known) in
      let size : length (jobs_taken seat) ≡ length balances.order = omega (arith, balances.taken (λ (j : Job X). 1), count-ones (jobs_taken seat), count-ones balances.order) in
      let all : jobs_taken seat ≡ balances.order = within-all (jobs_taken seat) balances.order balances.within.0 size in
      let each = subst (AllByRecursion (λ (u : Puts X). jobs_of u.source balances.order ≡ numbered u.source 0 u.items)) puts balances.each in
      let none = subst (λ n. AllByRecursion (λ (j : Job X). j.source < n) balances.order) one balances.no_others in
      ap (map (λ (j : Job X). j.item)) (all ∙ sym (jobs-of-first ended.source first balances.order none) ∙ each.0) ∙ items-numbered ended.source 0 (items_ended ended)
