-- What follows for each job from `Balances` of a settled queue.
use Rattle.std.proofs.Common.{◌≡◌, ℕ, suc, ◌+◌, ◌<◌, ◌≤◌, inl, inr, ⊎_elim, List, [], ◌∷◌, length, refl, sym, ap, subst, ◌∙◌, arith}
use Rattle.std.specs.Prelude.{slice_index_or}
use Rattle.std.specs.List.{sum_by, AllByRecursion}
use Rattle.std.proofs.lemmas.Bool.{eq-eqb}
use Rattle.std.proofs.lemmas.Bool.Decides.{eqb_tells}
use Rattle.ls_queue.specs.declared.replies.Job.{Job}
use Rattle.ls_queue.specs.declared.views.Puts.{Puts}
use Rattle.ls_queue.specs.declared.views.Takes.{Takes}
use Rattle.ls_queue.specs.declared.running.Queue.{Queue}
use Rattle.ls_queue.specs.declared.running.Finished.{Finished}
use Rattle.ls_queue.specs.declared.running.WorkerSeat.{WorkerSeat}
use Rattle.ls_queue.specs.View.Account.{IsCounted, IsWithin, numbered, jobs_of, weight_at, is_job}
use Rattle.ls_queue.specs.View.Running.{Balances, TookAll, sources_of, puts_of, takes_of}
use Rattle.ls_queue.proofs.AccountLists.{all_map}
use Rattle.ls_queue.proofs.AccountLaws.{own_jobs, one_each, item_at}

module _ {X : Type 0} where
  -- a source that is counted put that many items, and its jobs are these
  counted_part : (counts : List ℕ) (us : List (Puts X)) (order : List (Job X)) (s : ℕ) → IsCounted counts us s
      → AllByRecursion (λ (u : Puts X). jobs_of u.source order ≡ numbered u.source 0 u.items) us
      → (xs : List X) × (slice_index_or counts s 0 ≡ length xs) × (jobs_of s order ≡ numbered s 0 xs)
  counted_part counts [] order s c each = absurd c
  counted_part counts (u ∷ us) order s c each = ⊎_elim (λ t. (u.items, t.1, subst (λ k. jobs_of k order ≡ numbered k 0 u.items) t.0 each.0))
      (λ t. counted_part counts us order s t each.1) c

  numbered_below : (s m c : ℕ) (xs : List X) → m + length xs ≤ c → AllByRecursion (λ (j : Job X). (j.source ≡ s) × (j.number < c)) (numbered s m xs)
  numbered_below s m c [] le = tt
  numbered_below s m c (x ∷ xs) le = ((refl, omega arith), numbered_below s (suc m) c xs (omega arith))

  -- what is true of the jobs of each source is true of all
  each_own : (sources : ℕ) (P : Job X → Type 0) (jobs : List (Job X)) → AllByRecursion (λ (j : Job X). j.source < sources) jobs
      → ((s : ℕ) → s < sources → AllByRecursion P (jobs_of s jobs)) → AllByRecursion P jobs
  each_own sources P [] known own = tt
  each_own sources P (j ∷ js) known own =
      let here : jobs_of j.source (j ∷ js) ≡ j ∷ jobs_of j.source js = rw (eq-eqb j.source j.source refl) refl in
      let mine : P j × AllByRecursion P (jobs_of j.source js) = subst (AllByRecursion P) here (own j.source known.0) in
      let rest : (s : ℕ) → s < sources → AllByRecursion P (jobs_of s js)
      = λ s below. elim (eqb_tells j.source s) [
        | inl same ↦
            let is : jobs_of s (j ∷ js) ≡ j ∷ jobs_of s js = rw same.0 refl in
            let all : P j × AllByRecursion P (jobs_of s js) = subst (AllByRecursion P) is (own s below) in all.1
        | inr other ↦
            let is : jobs_of s (j ∷ js) ≡ jobs_of s js = rw other.0 refl in subst (AllByRecursion P) is (own s below)
      ] in (mine.0, each_own sources P js known.1 rest)

  within_all : (P : Job X → Type 0) (xs ys : List (Job X)) → IsWithin xs ys → AllByRecursion P ys → AllByRecursion P xs
  within_all P [] ys within all = tt
  within_all P (x ∷ xs) [] within all = absurd within
  within_all P (x ∷ xs) (y ∷ ys) within all = ⊎_elim (λ t. (subst P (sym t.0) all.0, within_all P xs ys t.1 all.1)) (λ t. within_all P (x ∷ xs) ys t all.1) within

  -- of each source the jobs with the numbers below its count were taken, each once and with its item, and no others
  pub took_all : (queue : Queue X) (finished : Finished X) (seats : List (WorkerSeat X)) (counts : List ℕ) → Balances queue finished seats counts
      → TookAll (sources_of queue) (puts_of finished) seats counts
  took_all queue finished seats counts b =
      let P : Job X → Type 0 = λ j. (j.source < sources_of queue) × (j.number < slice_index_or counts j.source 0) in
      let own : (s : ℕ) → s < sources_of queue → AllByRecursion P (jobs_of s b.order)
      = λ s below.
      let p = counted_part counts (puts_of finished) b.order s (b.counted s below) b.each in
      subst (AllByRecursion P) (sym p.2)
      (all_map (λ (j : Job X). (j.source ≡ s) × (j.number < slice_index_or counts s 0)) P
      (λ j h. (subst (λ k. k < sources_of queue) (sym h.0) below, subst (λ k. j.number < slice_index_or counts k 0) (sym h.0) h.1))
      (numbered s 0 p.0) (numbered_below s 0 (slice_index_or counts s 0) p.0 (let e = p.1 in omega arith))) in
      record {
        once = λ s n known below.
            let p = counted_part counts (puts_of finished) b.order s (b.counted s known) b.each in
            b.taken (is_job s n) ∙ (own_jobs s n (λ _. 1) b.order ∙ (ap (sum_by (is_job s n)) p.2 ∙ one_each s n 0 p.0 (omega arith) (let e = p.1 in omega arith)));
        item = all_map (λ (u : Puts X). jobs_of u.source b.order ≡ numbered u.source 0 u.items) _
            (λ u f n x there h. b.taken (weight_at u.source n h) ∙ (own_jobs u.source n h b.order ∙ (ap (sum_by (weight_at u.source n h)) f ∙ item_at u.source n 0 n h u.items x (omega arith) there)))
            (puts_of finished) b.each;
        no_others = all_map (λ (u : Takes X). IsWithin u.jobs b.order) _ (λ u w. within_all P u.jobs b.order w (each_own (sources_of queue) P b.order b.no_others own)) (takes_of seats) b.within;
      }
