-- A line is the bytes up to LF.
use Rattle.std.proofs.Common.{◌≡◌, ◌≢◌, ◌⊎◌, inl, inr, ◌<◌, ℕ, Bool, true, false, List, [], ◌∷◌, ◌++◌, length, drop, Option, if◌then◌else◌, nat_lt, rules, refl, sym, ap, ◌∙◌, arith, append_assoc, length-append}
use Rattle.std.specs.List.{AllByRecursion}
use Rattle.ls_frame.specs.View.Known.{TakesUntil}
use Rattle.ls_stream.specs.declared.faults.StreamFault.{StreamFault}
use Rattle.ls_stream.specs.declared.faults.StreamFault.TheVariants as stream
use Rattle.ls_stream.specs.View.Outlines.{IsFirstFault}
use Rattle.ls_archive.specs.declared.checking.Damage.TheVariants.{Truncated, Changed}
use Rattle.ls_archive.specs.View.Checking.{Line, HasNoLineFeed, HasLine, IsDamage}
use Rattle.ls_archive.specs.View.Checks.{IsOneLine}

pub all-append : {A : Type 0} (P : A → Type 0) (xs ys : List A) → AllByRecursion P xs → AllByRecursion P ys → AllByRecursion P (xs ++ ys)
all-append P [] ys all more = more
all-append P (x ∷ xs) ys all more = (all.0, all-append P xs ys all.1 more)

-- the last byte split off
pub split_last : (text : List ℕ) → 0 < length text → HasNoLineFeed text → IsOneLine text
split_last [] some one = absurd (omega (arith, some))
split_last (byte ∷ []) some one = record { first = []; last = byte; text_is = refl; one = tt }
split_last (byte ∷ next ∷ bytes) some one =
    let later = split_last (next ∷ bytes) (omega arith) one.1 in
    record { first = byte ∷ later.first; last = later.last; text_is = ap (λ s. byte ∷ s) later.text_is; one = (one.0, later.one) }

-- bytes without LF, and those taken after them, are one line
pub taken_line : (most last : ℕ) (old new : Option (List ℕ)) (before after : List ℕ) → TakesUntil 10 most old new before after last → HasNoLineFeed before → IsOneLine after
taken_line most last old new before after taken one = record {
  first = before ++ taken.run;
  last = last;
  text_is = taken.appended ∙ sym (append_assoc before taken.run (last ∷ []));
  one = all-append (λ byte. byte ≢ 10) before taken.run one taken.unmarked;
}

unfoldable pub head_or : ℕ → List ℕ → ℕ
head_or other [] = other
head_or other (x ∷ xs) = x

-- lists that are equal with one byte added to each are equal without it
pub same_first : (a b : List ℕ) (x y : ℕ) → a ++ x ∷ [] ≡ b ++ y ∷ [] → a ≡ b
unfolding head_or
same_first [] [] x y same = refl
same_first [] (c ∷ b) x y same = absurd (omega (arith, ap length same, length-append b (y ∷ [])))
same_first (c ∷ a) [] x y same = absurd (omega (arith, ap length same, length-append a (x ∷ [])))
same_first (c ∷ a) (d ∷ b) x y same =
    let first : c ≡ d = ap (head_or 0) same in
    let later : a ++ x ∷ [] ≡ b ++ y ∷ [] = ap (drop 1) same in
    ap (λ e. e ∷ a) first ∙ ap (λ s. d ∷ s) (same_first a b x y later)

-- the damage of bytes that don't match their line
pub damage_by : (n offset : ℕ) (l : Line) (bytes : List ℕ) → (HasLine n offset l.text bytes → ⊥) → (short : Bool) → short ≡ nat_lt (length bytes) l.size
    → IsDamage n offset l bytes (if short then Truncated else Changed)
damage_by n offset l bytes other true is = (other, search (rules, is))
damage_by n offset l bytes other false is = (other, search (rules, is))

-- the fault of decoding, if it isn't that an allocation failed
pub first_fault : (bytes : List ℕ) (fault : StreamFault) → (fault ≡ stream.NoMemory) ⊎ IsFirstFault bytes fault → fault ≢ stream.NoMemory → IsFirstFault bytes fault
first_fault bytes fault (inl memory) other = absurd (other memory)
first_fault bytes fault (inr first) other = first
