-- The frames that a text asks for, from the numbers in it.
use Rattle.std.proofs.Common.{◌≡◌, ◌<◌, ◌≤◌, ◌++◌, ◌∷◌, ℕ, List, [], length, Option, Some, None, IfSome, refl, sym, ap, subst, ◌∙◌, arith, inl, inr, drop}
use Rattle.ls_command.specs.declared.frames.Frames.{Frames}
use Rattle.ls_command.specs.declared.frames.TheConstants.{MOST_NUMBERS}
use Rattle.ls_command.specs.Values.{Writes, ReadsBelow, WriteRange, point}
use Rattle.ls_command.specs.View.Asked.{AreInOrder, ReadsFrames, ReadsRange, IsBetween}
use Rattle.ls_command.proofs.NumberLemmas.{Lacks, number_lacks, no_cut, one_cut}

-- ---- in order

last_below : (frames : Frames) (n : ℕ) → frames.last ≡ Some n → AreInOrder frames → (frames.first ≤ n) × (n < MOST_NUMBERS)
last_below frames n is ordered = subst (λ (last : Option ℕ). IfSome last (λ l. (frames.first ≤ l) × (l < MOST_NUMBERS))) is ordered.1

are_in_order : (frames : Frames) (a n : ℕ) → frames.first ≡ a → frames.last ≡ Some n → a ≤ n → n < MOST_NUMBERS → AreInOrder frames
are_in_order frames a n first last le lt =
    (omega (arith, first, le, lt), subst (λ (l : Option ℕ). IfSome l (λ m. (frames.first ≤ m) × (m < MOST_NUMBERS))) (sym last) (omega (arith, first, le), lt))

-- ---- on both sides of `..`

pub from_none : (a b : List ℕ) → length b ≡ 0 → ReadsBelow MOST_NUMBERS a None → ReadsRange a b None
from_none a [] empty none = λ frames writes ordered. none frames.first writes.0 ordered.0
from_none a (c ∷ b) empty none = absurd (omega (arith, empty))

pub from_some : (a b : List ℕ) (n : ℕ) → length b ≡ 0 → ReadsBelow MOST_NUMBERS a (Some n) → ReadsRange a b (Some (record { first = n; last = None }))
from_some a [] n empty reads = ((reads.0, refl), (reads.1, tt))
from_some a (c ∷ b) n empty reads = absurd (omega (arith, empty))

pub up_to_none : (a b : List ℕ) → length a ≡ 0 → 0 < length b → ReadsBelow MOST_NUMBERS b None → ReadsRange a b None
up_to_none a [] empty some none = absurd (omega (arith, some))
up_to_none [] (c ∷ b) empty some none = λ frames writes ordered. none writes.1 writes.3 (last_below frames writes.1 writes.2 ordered).1
up_to_none (d ∷ a) (c ∷ b) empty some none = absurd (omega (arith, empty))

pub up_to : (a b : List ℕ) (n : ℕ) (between : Option Frames) → length a ≡ 0 → 0 < length b → ReadsBelow MOST_NUMBERS b (Some n) → IsBetween 0 n between → ReadsRange a b between
up_to a [] n between empty some reads is = absurd (omega (arith, some))
up_to [] (c ∷ b) n (Some frames) empty some reads is = ((is.0, n, is.1, reads.0), are_in_order frames 0 n is.0 is.1 is.2 reads.1)
up_to [] (c ∷ b) n None empty some reads is = absurd (omega (arith, is))
up_to (d ∷ a) (c ∷ b) n between empty some reads is = absurd (omega (arith, empty))

pub first_none : (a b : List ℕ) → 0 < length a → 0 < length b → ReadsBelow MOST_NUMBERS a None → ReadsRange a b None
first_none a [] any some none = absurd (omega (arith, some))
first_none [] (c ∷ b) any some none = absurd (omega (arith, any))
first_none (d ∷ a) (c ∷ b) any some none = λ frames writes ordered. none frames.first writes.0 ordered.0

pub last_none : (a b : List ℕ) → 0 < length a → 0 < length b → ReadsBelow MOST_NUMBERS b None → ReadsRange a b None
last_none a [] any some none = absurd (omega (arith, some))
last_none [] (c ∷ b) any some none = absurd (omega (arith, any))
last_none (d ∷ a) (c ∷ b) any some none = λ frames writes ordered. none writes.1 writes.3 (last_below frames writes.1 writes.2 ordered).1

pub both : (a b : List ℕ) (m n : ℕ) (between : Option Frames) → 0 < length a → 0 < length b → ReadsBelow MOST_NUMBERS a (Some m) → ReadsBelow MOST_NUMBERS b (Some n)
    → IsBetween m n between → ReadsRange a b between
both a [] m n between any some one other is = absurd (omega (arith, some))
both [] (c ∷ b) m n between any some one other is = absurd (omega (arith, any))
both (d ∷ a) (c ∷ b) m n (Some frames) any some one other is =
    ((subst (λ (k : ℕ). Writes (d ∷ a) k) (sym is.0) one.0, n, is.1, other.0), are_in_order frames m n is.0 is.1 is.2 other.1)
both (d ∷ a) (c ∷ b) m n None any some one other is = λ frames writes ordered.
    let order = (last_below frames writes.1 writes.2 ordered).0 in
    omega (arith, order, one.0.1, writes.0.1, other.0.1, writes.3.1, is)

-- ---- the whole text

first_lacks : (a b : List ℕ) (frames : Frames) → WriteRange a b frames → Lacks point a
first_lacks a [] frames writes = number_lacks point a frames.first (omega arith) writes.0
first_lacks [] (c ∷ b) frames writes = tt
first_lacks (d ∷ a) (c ∷ b) frames writes = number_lacks point (d ∷ a) frames.first (omega arith) writes.0

pub one_none : (text : List ℕ) → Lacks point text → ReadsBelow MOST_NUMBERS text None → ReadsFrames text None
one_none text lacks none = λ frames writes ordered. elim writes [
  | inl alone ↦ none frames.first alone.0 ordered.0
  | inr range ↦ no_cut point text range.0 (point ∷ range.1) lacks range.2
]

pub one_some : (text : List ℕ) (n : ℕ) → ReadsBelow MOST_NUMBERS text (Some n) → ReadsFrames text (Some (record { first = n; last = Some n }))
one_some text n reads = (inl (reads.0, refl), (reads.1, (omega arith, reads.1)))

-- a text that is cut at its first point
module _ (text first rest : List ℕ) (cut : text ≡ first ++ point ∷ rest) (lacks : Lacks point first) where
  pub one_point : ((more : List ℕ) → rest ≡ point ∷ more → ⊥) → ReadsFrames text None
  one_point single = λ frames writes ordered. elim writes [
    | inl alone ↦ no_cut point text first rest (number_lacks point text frames.first (omega arith) alone.0) cut
    | inr range ↦
        let one = one_cut point first rest range.0 (point ∷ range.1) lacks (first_lacks range.0 range.1 frames range.3) (sym cut ∙ range.2) in
        single range.1 one.1
  ]

  pub two_points : (last : List ℕ) (found : Option Frames) → rest ≡ point ∷ last → ReadsRange first last found → ReadsFrames text found
  two_points last (Some frames) is reads = (inr (first, last, cut ∙ ap (λ (r : List ℕ). first ++ point ∷ r) is, reads.0), reads.1)
  two_points last None is none = λ frames writes ordered. elim writes [
    | inl alone ↦ no_cut point text first rest (number_lacks point text frames.first (omega arith) alone.0) cut
    | inr range ↦
        let one = one_cut point first rest range.0 (point ∷ range.1) lacks (first_lacks range.0 range.1 frames range.3) (sym cut ∙ range.2) in
        let same : last ≡ range.1 = ap (drop 1) (sym is ∙ one.1) in
        none frames (subst (λ (b : List ℕ). WriteRange first b frames) (sym same) (subst (λ (a : List ℕ). WriteRange a range.1 frames) (sym one.0) range.3)) ordered
  ]
