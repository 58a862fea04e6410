-- A run, as it is read bit by bit.
use Rattle.std.proofs.Common.{◌≡◌, ◌↔◌, ℕ, ◌+◌, ◌-◌, ◌%◌, ◌^◌, ◌<◌, ◌≤◌, min, Bool, true, false, List, [], ◌∷◌, ◌++◌, length, length-append, inl, inr, refl, sym, ◌∙◌, ap, true≢false, mod-eq_of_lt, arith}
use Rattle.std.proofs.lemmas.Bool.{cases_lt}
use Rattle.ls_bits.specs.Bits.{bits_of}
use Rattle.ls_bits.proofs.BitLemmas.{length-bits_of}
use Rattle.ls_bits.proofs.GolombLaws.{same_low}
use Rattle.ls_coding.specs.Runs.{order, run_of, run_bits, index_at, Walk}
use Rattle.ls_coding.specs.View.States.{Coding, run_after}
use Rattle.ls_coding.proofs.RunLaws.{one_bit_more, one_bit_left, no_bit_left, bits_of_break, after_joined}
use Rattle.ls_coding.proofs.RunLemmas.{some_samples, walked_one}
use Rattle.ls_stream.specs.View.Decoding.{EndsInLine}

-- ---- a bit at the front

first_of : List Bool → Bool
first_of [] = false
first_of (bit ∷ bits) = bit

later_of : List Bool → List Bool
later_of [] = []
later_of (bit ∷ bits) = bits

pub same_later : (bit other : Bool) (x y : List Bool) → bit ∷ x ≡ other ∷ y → x ≡ y
unfolding later_of
same_later bit other x y e = ap later_of e

pub one_or_zero : (x y : List Bool) → true ∷ x ≡ false ∷ y → ⊥
unfolding first_of
one_or_zero x y e = true≢false (ap first_of e)

-- how the bits begin of a run that ends in a line with this number of samples left: with a bit 1 for 2^J samples, or for the samples that
-- are left; or with a bit 0, and the rest in J bits
pub data RunBegins (index left count : ℕ) (interrupted : Bool) (bits rest : List Bool) : Type 0 where
  whole_one : 2 ^ order index ≤ count → bits ≡ true ∷ (run_bits (min (index + 1) 31) (run_of (count - 2 ^ order index) interrupted) ++ rest)
      → RunBegins index left count interrupted bits rest
  part_one : interrupted ≡ false → count ≡ left → count < 2 ^ order index → bits ≡ true ∷ rest → RunBegins index left count interrupted bits rest
  break : interrupted ≡ true → count < left → count < 2 ^ order index → bits ≡ false ∷ (bits_of (order index) count ++ rest)
      → RunBegins index left count interrupted bits rest

begins_few : (index left count : ℕ) (interrupted : Bool) (bits rest : List Bool) → 0 < left → EndsInLine left count interrupted → count < 2 ^ order index
    → bits ≡ run_bits index (run_of count interrupted) ++ rest → RunBegins index left count interrupted bits rest
begins_few index left count true bits rest some ends few e =
    break refl (ends.short refl) few (e ∙ ap (λ x. x ++ rest) (bits_of_break index count few))
begins_few index left count false bits rest some ends few e =
    let full : count ≡ left = ends.full refl in
    part_one refl full few (e ∙ ap (λ x. x ++ rest) (one_bit_left index count (omega arith) few))

pub begins : (index left count : ℕ) (interrupted : Bool) (bits rest : List Bool) → 0 < left → EndsInLine left count interrupted
    → bits ≡ run_bits index (run_of count interrupted) ++ rest → RunBegins index left count interrupted bits rest
begins index left count interrupted bits rest some ends e =
    elim (cases_lt count (2 ^ order index)) [
      | inl few ↦ begins_few index left count interrupted bits rest some ends few e
      | inr enough ↦ whole_one enough (e ∙ ap (λ x. x ++ rest) (one_bit_more index count interrupted enough))
    ]

-- what is left of a run, and of its line, after this number of samples
pub ends_later : (left so_far other : ℕ) (interrupted : Bool) → so_far ≤ other → so_far ≤ left → EndsInLine left other interrupted → EndsInLine (left - so_far) (other - so_far) interrupted
ends_later left so_far other interrupted h k ends = record { full = λ e. let full = ends.full e in omega arith; short = λ e. let short = ends.short e in omega arith }

-- ---- while bits are read

-- of a run that began at one place this number of samples was read, and the bits that are left are those at the other place
pub record IsInRun (left so_far first index : ℕ) (start bits : List Bool) : Type 0 where
  pub runs : (count : ℕ) (interrupted : Bool) (rest : List Bool)
      → (start ≡ run_bits first (run_of (so_far + count) interrupted) ++ rest) ↔ (bits ≡ run_bits index (run_of count interrupted) ++ rest)
  pub longer : (other : ℕ) (interrupted : Bool) (rest : List Bool) → EndsInLine left other interrupted
      → start ≡ run_bits first (run_of other interrupted) ++ rest → so_far ≤ other

pub begun : (left index : ℕ) (bits : List Bool) → IsInRun left 0 index index bits bits
begun left index bits = record {
  runs = λ count interrupted rest.
      let none : 0 + count ≡ count = omega arith in
      (λ e. e ∙ ap (λ n. run_bits index (run_of n interrupted) ++ rest) none, λ e. e ∙ ap (λ n. run_bits index (run_of n interrupted) ++ rest) (sym none));
  longer = λ other interrupted rest ends e. omega arith;
}

-- the bits that are left, of a run that may be partly read
to_come : (left so_far first index other : ℕ) (interrupted : Bool) (start bits rest : List Bool) → IsInRun left so_far first index start bits → so_far < left
    → EndsInLine left other interrupted → start ≡ run_bits first (run_of other interrupted) ++ rest → RunBegins index (left - so_far) (other - so_far) interrupted bits rest
to_come left so_far first index other interrupted start bits rest in_run short ends e =
    let longer : so_far ≤ other = in_run.longer other interrupted rest ends e in
    let back : other ≡ so_far + (other - so_far) = omega arith in
    begins index (left - so_far) (other - so_far) interrupted bits rest (omega arith) (ends_later left so_far other interrupted longer (omega arith) ends)
    ((in_run.runs (other - so_far) interrupted rest).0 (e ∙ ap (λ n. run_bits first (run_of n interrupted) ++ rest) back))

-- a bit 1 that stands for 2^J samples
longer_by_one : (left index so_far other : ℕ) (interrupted : Bool) (bits new rest : List Bool) → bits ≡ true ∷ new → 2 ^ order index < left - so_far
    → RunBegins index (left - so_far) (other - so_far) interrupted bits rest → so_far ≤ other → so_far + 2 ^ order index ≤ other
longer_by_one left index so_far other interrupted bits new rest e more (whole_one enough f) h = omega arith
longer_by_one left index so_far other interrupted bits new rest e more (part_one is full few f) h = omega arith
longer_by_one left index so_far other interrupted bits new rest e more (break is short few f) h = absurd (one_or_zero new _ (sym e ∙ f))

pub one_read : (left so_far first index count next : ℕ) (start bits new : List Bool) → IsInRun left so_far first index start bits → so_far < left
    → bits ≡ true ∷ new → count ≡ 2 ^ order index → next ≡ min (index + 1) 31 → so_far + count < left
    → IsInRun left (so_far + count) first next start new
one_read left so_far first index count next start bits new in_run short e f g more = record {
  runs = λ m interrupted rest.
      let all : so_far + count + m ≡ so_far + (count + m) = omega arith in
      let back : count + m - 2 ^ order index ≡ m = omega arith in
      let one : run_bits index (run_of (count + m) interrupted) ++ rest ≡ true ∷ (run_bits next (run_of m interrupted) ++ rest) =
      ap (λ x. x ++ rest) (one_bit_more index (count + m) interrupted (omega arith))
      ∙ ap (λ n. true ∷ (run_bits (min (index + 1) 31) (run_of n interrupted) ++ rest)) back
      ∙ ap (λ n. true ∷ (run_bits n (run_of m interrupted) ++ rest)) (sym g) in (
        λ h. same_later true true _ _ (sym e ∙ (in_run.runs (count + m) interrupted rest).0 (h ∙ ap (λ n. run_bits first (run_of n interrupted) ++ rest) all) ∙ one),
        λ h. (in_run.runs (count + m) interrupted rest).1 (e ∙ ap (λ x. true ∷ x) h ∙ sym one) ∙ ap (λ n. run_bits first (run_of n interrupted) ++ rest) (sym all),
      );
  longer = λ other interrupted rest ends h.
      let enough : so_far + 2 ^ order index ≤ other =
      longer_by_one left index so_far other interrupted bits new rest e (omega arith) (to_come left so_far first index other interrupted start bits rest in_run short ends h)
      (in_run.longer other interrupted rest ends h) in
      omega arith;
}

-- a bit 1 that completes the line
pub last_one : (left so_far first index count : ℕ) (start bits new : List Bool) → IsInRun left so_far first index start bits
    → bits ≡ true ∷ new → 0 < count → count ≤ 2 ^ order index → start ≡ run_bits first (run_of (so_far + count) false) ++ new
last_one left so_far first index count start bits new in_run e some few =
    (in_run.runs count false new).1
    (e ∙ ap (λ x. x ++ new)
    (elim (cases_lt count (2 ^ order index)) [
      | inl less ↦ sym (one_bit_left index count some less)
      | inr enough ↦
          let none : count - 2 ^ order index ≡ 0 = omega arith in
          sym (one_bit_more index count false enough
          ∙ ap (λ n. true ∷ run_bits (min (index + 1) 31) (run_of n false)) none
          ∙ ap (λ x. true ∷ x) (no_bit_left (min (index + 1) 31)))
    ]))

only_last : (index left so_far count other : ℕ) (interrupted : Bool) (bits new rest : List Bool) → bits ≡ true ∷ new → count ≡ left - so_far → so_far < left → count ≤ 2 ^ order index
    → EndsInLine left other interrupted → so_far ≤ other → RunBegins index (left - so_far) (other - so_far) interrupted bits rest
    → (other ≡ so_far + count) × (interrupted ≡ false) × (rest ≡ new)
only_last index left so_far count other true bits new rest e f short few ends h (whole_one enough g) = let less = ends.short refl in absurd (omega arith)
only_last index left so_far count other false bits new rest e f short few ends h (whole_one enough g) =
    let full = ends.full refl in
    let none : other - so_far - 2 ^ order index ≡ 0 = omega arith in (
      omega arith,
      refl,
      sym (same_later true true _ _ (sym e ∙ g ∙ ap (λ n. true ∷ (run_bits (min (index + 1) 31) (run_of n false) ++ rest)) none
          ∙ ap (λ x. true ∷ (x ++ rest)) (no_bit_left (min (index + 1) 31)))),
    )
only_last index left so_far count other interrupted bits new rest e f short few ends h (part_one is full less g) =
    (omega arith, is, same_later true true _ _ (sym g ∙ e))
only_last index left so_far count other interrupted bits new rest e f short few ends h (break is less low g) = absurd (one_or_zero new _ (sym e ∙ g))

pub only_to_end : (left so_far first index count other : ℕ) (interrupted : Bool) (start bits new rest : List Bool) → IsInRun left so_far first index start bits → so_far < left
    → bits ≡ true ∷ new → count ≡ left - so_far → count ≤ 2 ^ order index
    → EndsInLine left other interrupted → start ≡ run_bits first (run_of other interrupted) ++ rest → (other ≡ so_far + count) × (interrupted ≡ false) × (rest ≡ new)
only_to_end left so_far first index count other interrupted start bits new rest in_run short e f few ends g =
    only_last index left so_far count other interrupted bits new rest e f short few ends (in_run.longer other interrupted rest ends g)
    (to_come left so_far first index other interrupted start bits rest in_run short ends g)

-- ---- where the bits end, or continue as no run's do

pub no_begin : (index left count : ℕ) (interrupted : Bool) (bits rest : List Bool) → bits ≡ [] → RunBegins index left count interrupted bits rest → ⊥
no_begin index left count interrupted bits rest none (whole_one enough e) = absurd (omega (arith, ap length (sym none ∙ e)))
no_begin index left count interrupted bits rest none (part_one is full few e) = absurd (omega (arith, ap length (sym none ∙ e)))
no_begin index left count interrupted bits rest none (break is short few e) = absurd (omega (arith, ap length (sym none ∙ e)))

pub no_bit : (left so_far first index other : ℕ) (interrupted : Bool) (start bits rest : List Bool) → IsInRun left so_far first index start bits → so_far < left
    → bits ≡ [] → EndsInLine left other interrupted → start ≡ run_bits first (run_of other interrupted) ++ rest → ⊥
no_bit left so_far first index other interrupted start bits rest in_run short none ends e =
    no_begin index (left - so_far) (other - so_far) interrupted bits rest none (to_come left so_far first index other interrupted start bits rest in_run short ends e)

pub few_begin : (index left count : ℕ) (interrupted : Bool) (bits new rest : List Bool) → bits ≡ false ∷ new → length new < order index → RunBegins index left count interrupted bits rest → ⊥
few_begin index left count interrupted bits new rest e short (whole_one enough f) = one_or_zero _ new (sym f ∙ e)
few_begin index left count interrupted bits new rest e short (part_one is full few f) = one_or_zero _ new (sym f ∙ e)
few_begin index left count interrupted bits new rest e short (break is less few f) =
    absurd (omega (arith, ap length (same_later false false new _ (sym e ∙ f)), length-append (bits_of (order index) count) rest, length-bits_of (order index) count))

pub few_bits : (left so_far first index other : ℕ) (interrupted : Bool) (start bits new rest : List Bool) → IsInRun left so_far first index start bits → so_far < left
    → bits ≡ false ∷ new → length new < order index → EndsInLine left other interrupted → start ≡ run_bits first (run_of other interrupted) ++ rest → ⊥
few_bits left so_far first index other interrupted start bits new rest in_run short e few ends f =
    few_begin index (left - so_far) (other - so_far) interrupted bits new rest e few (to_come left so_far first index other interrupted start bits rest in_run short ends f)

-- a bit 0, and the rest of the run
pub break_read : (left so_far first index count : ℕ) (start bits mid new : List Bool) → IsInRun left so_far first index start bits
    → bits ≡ false ∷ mid → mid ≡ bits_of (order index) count ++ new → count < 2 ^ order index → start ≡ run_bits first (run_of (so_far + count) true) ++ new
break_read left so_far first index count start bits mid new in_run e f few =
    (in_run.runs count true new).1 (e ∙ ap (λ x. false ∷ x) f ∙ ap (λ x. x ++ new) (sym (bits_of_break index count few)))

break_begin : (index left count found : ℕ) (interrupted : Bool) (bits mid new rest : List Bool) → bits ≡ false ∷ mid → mid ≡ bits_of (order index) found ++ new → found < 2 ^ order index
    → RunBegins index left count interrupted bits rest → (count ≡ found) × (interrupted ≡ true) × (rest ≡ new) × (count < left)
break_begin index left count found interrupted bits mid new rest e f few (whole_one enough g) = absurd (one_or_zero _ mid (sym g ∙ e))
break_begin index left count found interrupted bits mid new rest e f few (part_one is full less g) = absurd (one_or_zero _ mid (sym g ∙ e))
break_begin index left count found interrupted bits mid new rest e f few (break is short less g) =
    let low = same_low (order index) count found rest new (same_later false false _ _ (sym g ∙ e) ∙ f) in
    let one : count % 2 ^ order index ≡ count = mod-eq_of_lt less in
    let other : found % 2 ^ order index ≡ found = mod-eq_of_lt few in
    (sym one ∙ low.0 ∙ other, is, low.1, short)

pub only_break : (left so_far first index found other : ℕ) (interrupted : Bool) (start bits mid new rest : List Bool) → IsInRun left so_far first index start bits → so_far < left
    → bits ≡ false ∷ mid → mid ≡ bits_of (order index) found ++ new → found < 2 ^ order index
    → EndsInLine left other interrupted → start ≡ run_bits first (run_of other interrupted) ++ rest
    → (other ≡ so_far + found) × (interrupted ≡ true) × (rest ≡ new) × (found < left - so_far)
only_break left so_far first index found other interrupted start bits mid new rest in_run short e f few ends g =
    let same = break_begin index (left - so_far) (other - so_far) found interrupted bits mid new rest e f few (to_come left so_far first index other interrupted start bits rest in_run short ends g) in
    let longer = in_run.longer other interrupted rest ends g in
    let count : other ≡ so_far + found = omega (arith, same.0) in
    let inside : found < left - so_far = omega (arith, same.0, same.3) in
    (count, same.1, same.2, inside)

-- ---- states

pub states_on : (s t before : Coding) (so_far count : ℕ) → ((n : ℕ) (interrupted : Bool) → run_after s (run_of n interrupted) ≡ run_after before (run_of (so_far + n) interrupted))
    → t ≡ run_after s (run_of count false) → count ≡ 2 ^ order s.run_index
    → (n : ℕ) (interrupted : Bool) → run_after t (run_of n interrupted) ≡ run_after before (run_of (so_far + count + n) interrupted)
states_on s t before so_far count on e f n interrupted =
    let all : so_far + (count + n) ≡ so_far + count + n = omega arith in
    ap (λ (x : Coding). run_after x (run_of n interrupted)) e
    ∙ ap (λ m. run_after (run_after s (run_of m false)) (run_of n interrupted)) f
    ∙ after_joined s n interrupted
    ∙ ap (λ m. run_after s (run_of (m + n) interrupted)) (sym f)
    ∙ on (count + n) interrupted ∙ ap (λ m. run_after before (run_of m interrupted)) all

pub next_index : (s t : Coding) (count : ℕ) → t ≡ run_after s (run_of count false) → count ≡ 2 ^ order s.run_index → t.run_index ≡ min (s.run_index + 1) 31
next_index s t count e f =
    ap (λ (x : Coding). x.run_index) e ∙ ap (λ n. index_at s.run_index (run_of n false)) f ∙ ap (λ (w : Walk). w.index) (walked_one s.run_index)

-- ---- in the form of the contracts

pub bit_is_one : (value : ℕ) (bits new : List Bool) → bits ≡ bits_of 1 value ++ new → value ≡ 1 → bits ≡ true ∷ new
bit_is_one value bits new e one = e ∙ ap (λ n. bits_of 1 n ++ new) one

pub bit_is_zero : (value : ℕ) (bits new : List Bool) → bits ≡ bits_of 1 value ++ new → value < 2 → (value ≡ 1 → ⊥) → bits ≡ false ∷ new
bit_is_zero value bits new e small other = let zero_is : value ≡ 0 = omega arith in e ∙ ap (λ n. bits_of 1 n ++ new) zero_is

pub of_one : (index left count : ℕ) → count ≡ min (2 ^ order index) left → 0 < left → (0 < count) × (count ≤ 2 ^ order index)
of_one index left count e some = let power = some_samples index in (omega (arith, e), omega (arith, e))

pub not_all : (index left count : ℕ) → count ≡ min (2 ^ order index) left → (count ≡ left → ⊥) → count ≡ 2 ^ order index
not_all index left count e other =
    elim (cases_lt (2 ^ order index) left) [
      | inl more ↦ omega (arith, e)
      | inr few ↦ absurd (other (omega (arith, e)))
    ]
