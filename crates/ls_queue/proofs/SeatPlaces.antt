-- Seats by their index in a list.
use Rattle.std.proofs.Common.{◌≡◌, ℕ, zero, suc, ◌<◌, List, [], ◌∷◌, length, sym, subst, arith}
use Rattle.std.specs.Prelude.{slice_index_or}
use Rattle.std.specs.List.{AllByRecursion}
use Rattle.ls_queue.specs.declared.account.Channel.{Channel}
use Rattle.ls_queue.specs.declared.running.SourceSeat.{SourceSeat}
use Rattle.ls_queue.specs.declared.running.WorkerSeat.{WorkerSeat}
use Rattle.ls_queue.specs.View.Running.{AreNewSources, AreNewWorkers, IsSourceAt, IsWorkerAt}

-- what holds at each index holds of each element
pub each_at : {A : Type 0} (P : A → Type 0) (xs : List A) → ((i : ℕ) (d : A) → i < length xs → P (slice_index_or xs i d)) → AllByRecursion P xs
each_at P [] at = tt
each_at P (x ∷ xs) at = (at 0 x (omega arith), each_at P xs (λ i d below. at (suc i) d (omega arith)))

module _ {X : Type 0} where
  pub source_at : (channel : Channel X) (n : ℕ) (seats : List (SourceSeat X)) → AreNewSources channel n seats
      → (i : ℕ) (seat : SourceSeat X) → i < length seats → seat ≡ slice_index_or seats i seat → IsSourceAt channel seat
  source_at channel n [] new i seat below is = absurd (omega arith)
  source_at channel n (one ∷ seats) new zero seat below is = subst (IsSourceAt channel) (sym is) new.0.0
  source_at channel n (one ∷ seats) new (suc i) seat below is = source_at channel (suc n) seats new.1 i seat (omega arith) is

  pub worker_at : (channel : Channel X) (seats : List (WorkerSeat X)) → AreNewWorkers channel seats
      → (i : ℕ) (seat : WorkerSeat X) → i < length seats → seat ≡ slice_index_or seats i seat → IsWorkerAt channel seat
  worker_at channel [] new i seat below is = absurd (omega arith)
  worker_at channel (one ∷ seats) new zero seat below is = subst (IsWorkerAt channel) (sym is) new.0.0
  worker_at channel (one ∷ seats) new (suc i) seat below is = worker_at channel seats new.1 i seat (omega arith) is
