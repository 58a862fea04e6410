-- What is true if a replay has no fault.
use Rattle.std.proofs.Common.{◌≡◌, ℕ, ◌≤◌, Bool, true, false, not, cond, List, [], ◌∷◌, length, All, Option, Some, None, IsTrue, ◌+◌, refl, arith}
use Rattle.std.specs.List.{position, prefix_len}
use Rattle.std.proofs.lemmas.List.Elements.{All-nil, All-cons}
use Rattle.std.proofs.lemmas.Bool.Decides.{nat_tests}
use Rattle.ls_queue.specs.declared.steps.Step.{Step}
use Rattle.ls_queue.specs.declared.faults.QueueFault.{QueueFault}
use Rattle.ls_queue.specs.Steps.{is_known}
use Rattle.ls_queue.specs.Faults.{range_fault, first_of, replay_fault}

first_of-none : (fault : Option QueueFault) (number : Option ℕ) → first_of fault number ≡ None → (fault ≡ None) × (number ≡ None)
first_of-none (Some fault) number e = (cc, cc)
first_of-none None (Some number) e = (refl, cc)
first_of-none None None e = (refl, refl)

-- if the longest front whose elements pass is the whole list, each element passes
all_pass : (p : Step → Bool) (steps : List Step) → length steps ≤ prefix_len (λ step. not (not (p step))) steps → All (λ step. IsTrue (p step)) steps
all_pass p [] whole = All-nil (λ step. IsTrue (p step))
all_pass p (step ∷ steps) whole =
    let P : Bool → Type 0 = λ b. length steps + 1 ≤ cond (not (not b)) (1 + prefix_len (λ one. not (not (p one))) steps) 0 → (b ≡ true) × (length steps ≤ prefix_len (λ one. not (not (p one))) steps) in
    let here : P (p step) = elim (p step) as P [ true ↦ λ h. (refl, omega (arith, h)) | false ↦ λ h. absurd (omega (arith, h)) ] in
    let both : (p step ≡ true) × (length steps ≤ prefix_len (λ one. not (not (p one))) steps) = here (omega (arith, whole)) in
    All-cons (λ one. IsTrue (p one)) step steps both.0 (all_pass p steps both.1)

position-none : (p : Step → Bool) (steps : List Step) → position (λ step. not (p step)) steps ≡ None → All (λ step. IsTrue (p step)) steps
position-none p steps none = all_pass p steps (grind (arith, nat_tests))

-- the numbers are in range, and each step that names a source names an existing one
pub replay_fault-none : (sources capacity : ℕ) (steps : List Step) → replay_fault sources capacity steps ≡ None
    → (range_fault sources capacity ≡ None) × All (λ step. IsTrue (is_known sources step)) steps
replay_fault-none sources capacity steps none =
    let both = first_of-none (range_fault sources capacity) (position (λ step. not (is_known sources step)) steps) none in
    (both.0, position-none (is_known sources) steps both.1)
