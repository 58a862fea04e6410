-- How seats are made.
use Rattle.std.proofs.Common.{◌≡◌, ℕ, suc, ◌+◌, ◌-◌, ◌<◌, ◌≤◌, false, List, [], ◌∷◌, ◌++◌, length, sym, ap, ◌∙◌, arith, length-append}
use Rattle.crossbeam_channel.specs.Claims.{view, IsSeatAt}
use Rattle.crossbeam_channel.specs.Ends.{sends_on}
use Rattle.crossbeam_channel.specs.Fifo.{Forks}
use Rattle.ls_queue.specs.declared.views.View.{View}
use Rattle.ls_queue.specs.declared.account.Channel.{Channel}
use Rattle.ls_queue.specs.declared.running.SourceSeat.{SourceSeat}
use Rattle.ls_queue.specs.declared.running.WorkerSeat.{WorkerSeat}
use Rattle.ls_queue.specs.View.Account.{Kept, source_view, worker_view, closer_view, source_made, worker_made}
use Rattle.ls_queue.specs.View.Running.{AreNewSources, AreNewWorkers, items_put, jobs_taken, items_in, jobs_in_first}
use Rattle.ls_queue.proofs.AccountSeats.{makes_source, makes_worker}

pub length_more : {A : Type 0} (new old : List A) (a : A) (n : ℕ) → length old ≡ n → new ≡ old ++ a ∷ [] → length new ≡ n + 1
length_more new old a n many is = ap length is ∙ (length-append old (a ∷ []) ∙ (let m = many in omega arith))

module _ {X : Type 0} where
  pub source_forks : (p n : ℕ) (v : View X) → v ≡ closer_view (64 - n) n 0 → n < 16 → Forks Kept p v (source_made v) (source_view v.sources [])
  source_forks p n v is few = makes_source p v (ap (λ (u : View X). u.closes) is) (ap (λ (u : View X). u.workers) is) (ap (λ (u : View X). u.marks) is)
      (let e = ap (λ (u : View X). u.shares) is in omega arith)

  pub worker_forks : (p s n : ℕ) (v : View X) → v ≡ closer_view (64 - s - n) s n → s ≤ 16 → n < 16 → Forks Kept p v (worker_made v) (worker_view v.sources [] false)
  worker_forks p s n v is few few' = makes_worker p v (ap (λ (u : View X). u.closes) is) (let e = ap (λ (u : View X). u.shares) is in omega arith)

  pub source_known : (n : ℕ) (v w : View X) → v ≡ closer_view (64 - n) n 0 → w ≡ source_made v → w ≡ closer_view (64 - (n + 1)) (n + 1) 0
  source_known n v w is made = made ∙ (ap source_made is ∙ ap (λ m. closer_view m (n + 1) 0) (omega arith))

  pub worker_known : (s n : ℕ) (v w : View X) → v ≡ closer_view (64 - s - n) s n → w ≡ worker_made v → w ≡ closer_view (64 - s - (n + 1)) s (n + 1)
  worker_known s n v w is made = made ∙ (ap worker_made is ∙ ap (λ m. closer_view m s (n + 1)) (omega arith))

  pub AreNewSources-more : (channel : Channel X) (m n : ℕ) (seats : List (SourceSeat X)) (seat : SourceSeat X) → AreNewSources channel m seats → n ≡ m + length seats
      → IsSeatAt (sends_on channel.sender) seat.pass → view seat.pass ≡ source_view n [] → seat.source ≡ n → seat.count ≡ 0 → n < channel.sources
      → AreNewSources channel m (seats ++ seat ∷ [])
  AreNewSources-more channel m n [] seat before at pass known source count below =
      let none : items_put seat ≡ [] = ap (λ (u : View X). items_in u.puts) known in (
        (
          record {
            pass = pass;
            known = known ∙ (ap (λ k. source_view k []) (sym source) ∙ ap (source_view seat.source) (sym none));
            count = count ∙ ap length (sym none);
            source = omega arith;
          },
          omega arith,
          none,
        ),
        tt,
      )
  AreNewSources-more channel m n (other ∷ seats) seat before at pass known source count below =
      (before.0, AreNewSources-more channel (suc m) n seats seat before.1 (omega arith) pass known source count below)

  pub AreNewWorkers-more : (channel : Channel X) (seats : List (WorkerSeat X)) (seat : WorkerSeat X) → AreNewWorkers channel seats
      → IsSeatAt (sends_on channel.sender) seat.pass → view seat.pass ≡ worker_view channel.sources [] false → seat.done ≡ false
      → AreNewWorkers channel (seats ++ seat ∷ [])
  AreNewWorkers-more channel [] seat before pass known waits =
      let none : jobs_taken seat ≡ [] = ap (λ (u : View X). jobs_in_first u.takes) known in (
        (
          record {
            pass = pass;
            known = known ∙ (ap (λ b. worker_view channel.sources [] b) (sym waits) ∙ ap (λ l. worker_view channel.sources l seat.done) (sym none));
          },
          none,
          waits,
        ),
        tt,
      )
  AreNewWorkers-more channel (other ∷ seats) seat before pass known waits = (before.0, AreNewWorkers-more channel seats seat before.1 pass known waits)
