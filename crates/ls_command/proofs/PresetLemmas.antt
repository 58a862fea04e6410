-- The tuning that a preset asks for, from the numbers before its commas.
use Rattle.std.proofs.Common.{◌≡◌, ◌^◌, ◌++◌, ◌∷◌, ℕ, List, Some, None, sym, ap, subst, ◌∙◌, arith}
use Rattle.std.specs.Borrow.{Bor}
use Rattle.ls_command.specs.Values.{Writes, ReadsBelow, comma}
use Rattle.ls_command.specs.View.Asked.{ReadsTuning, TakesNumber}
use Rattle.ls_command.proofs.NumberLemmas.{Lacks, number_lacks, no_cut, one_cut}

-- ---- the number before a comma

pub no_comma : (text : List ℕ) → Lacks comma text → TakesNumber text None
no_comma text lacks = λ front rest n is writes lt. no_cut comma text front rest lacks is

-- a text that is cut at its first comma
module _ (text first : List ℕ) (rest : Bor (List ℕ)) (cut : text ≡ first ++ comma ∷ rest.now) (lacks : Lacks comma first) where
  pub no_number : ReadsBelow (2 ^ 16) first None → TakesNumber text None
  no_number none = λ front other n is writes lt.
      let one = one_cut comma first rest.now front other lacks (number_lacks comma front n (omega arith) writes) (sym cut ∙ is) in
      none n (subst (λ (t : List ℕ). Writes t n) (sym one.0) writes) lt

  pub number_taken : (n : ℕ) → ReadsBelow (2 ^ 16) first (Some n) → TakesNumber text (Some (n, rest))
  number_taken n reads = (first, cut, reads.0, reads.1)

-- ---- four numbers

-- the text after the first number is determined
rest_is : (text : List ℕ) (taken : ℕ × Bor (List ℕ)) → TakesNumber text (Some taken) → (front other : List ℕ) (n : ℕ) → text ≡ front ++ comma ∷ other → Writes front n
    → taken.1.now ≡ other
rest_is text taken took front other n is writes =
    (one_cut comma took.0 taken.1.now front other (number_lacks comma took.0 taken.0 (omega arith) took.2) (number_lacks comma front n (omega arith) writes)
    (sym took.1 ∙ is)).1

pub first_missing : (text : List ℕ) → TakesNumber text None → ReadsTuning text None
first_missing text none = λ tuning w. none w.0 (w.1 ++ comma ∷ (w.2 ++ comma ∷ w.3)) tuning.t1 w.4 w.5 w.6

module _ (text : List ℕ) (one : ℕ × Bor (List ℕ)) (first : TakesNumber text (Some one)) where
  pub second_missing : TakesNumber one.1.now None → ReadsTuning text None
  second_missing none = λ tuning w.
      none w.1 (w.2 ++ comma ∷ w.3) tuning.t2 (rest_is text one first w.0 (w.1 ++ comma ∷ (w.2 ++ comma ∷ w.3)) tuning.t1 w.4 w.5) w.7 w.8

  module _ (two : ℕ × Bor (List ℕ)) (second : TakesNumber one.1.now (Some two)) where
    pub third_missing : TakesNumber two.1.now None → ReadsTuning text None
    third_missing none = λ tuning w.
        let after = rest_is text one first w.0 (w.1 ++ comma ∷ (w.2 ++ comma ∷ w.3)) tuning.t1 w.4 w.5 in
        none w.2 w.3 tuning.t3 (rest_is one.1.now two second w.1 (w.2 ++ comma ∷ w.3) tuning.t2 after w.7) w.9 w.10

    module _ (three : ℕ × Bor (List ℕ)) (third : TakesNumber two.1.now (Some three)) where
      pub reset_missing : ReadsBelow (2 ^ 16) three.1.now None → ReadsTuning text None
      reset_missing none = λ tuning w.
          let after = rest_is text one first w.0 (w.1 ++ comma ∷ (w.2 ++ comma ∷ w.3)) tuning.t1 w.4 w.5 in
          let following = rest_is one.1.now two second w.1 (w.2 ++ comma ∷ w.3) tuning.t2 after w.7 in
          let last = rest_is two.1.now three third w.2 w.3 tuning.t3 following w.9 in
          none tuning.reset (subst (λ (t : List ℕ). Writes t tuning.reset) (sym last) w.11) w.12

      pub all_four : (n : ℕ) → ReadsBelow (2 ^ 16) three.1.now (Some n) → ReadsTuning text (Some (record { t1 = one.0; t2 = two.0; t3 = three.0; reset = n }))
      all_four n reads =
          let inner : one.1.now ≡ second.0 ++ comma ∷ (third.0 ++ comma ∷ three.1.now) = second.1 ∙ ap (λ (r : List ℕ). second.0 ++ comma ∷ r) third.1 in (
            first.0,
            second.0,
            third.0,
            three.1.now,
            first.1 ∙ ap (λ (r : List ℕ). first.0 ++ comma ∷ r) inner,
            first.2,
            first.3,
            second.2,
            second.3,
            third.2,
            third.3,
            reads.0,
            reads.1,
          )
