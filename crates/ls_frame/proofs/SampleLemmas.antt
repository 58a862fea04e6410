-- Samples within maxval, and pictures of such samples.
use Rattle.std.proofs.Common.{◌≡◌, ◌==◌, ◌&&◌, ℕ, suc, zero, ◌+◌, ◌<◌, ◌≤◌, ◌∙◌, sym, ap, Bool, true, false, cond, not, List, [], ◌∷◌, length, None, Some, refl, arith, nat_lt, fold, max, drop, get_or}
use lib.Pointwise.{pointwise}
use Rattle.std.specs.List.{position, prefix_len, AllByRecursion}
use Rattle.std.proofs.lemmas.Bool.{ltb-false, ltb-true, le-ltb}
use Rattle.ls_frame.specs.Picture.{Picture, IsFormed, IsFrame}

abbrev front : ℕ → List ℕ → ℕ
front m xs = prefix_len (λ s. not (nat_lt m s)) xs

step : (m x : ℕ) (xs : List ℕ) (over : Bool) → nat_lt m x ≡ over → suc (length xs) ≤ cond (not over) (1 + front m xs) 0
    → (x ≤ m) × (length xs ≤ front m xs)
step m x xs true e h = absurd (omega arith)
step m x xs false e h = (ltb-false m x e, omega arith)

-- if the search finds no sample over maxval, each is within it
through : (m : ℕ) (xs : List ℕ) → length xs ≤ front m xs → AllByRecursion (λ s. s ≤ m) xs
through m [] h = tt
through m (x ∷ xs) h = let found = step m x xs (nat_lt m x) refl h in (found.0, through m xs found.1)

found_none : (here : Bool) (i : ℕ) → cond here (Some i) None ≡ None → here ≡ false
found_none true i h = cc
found_none false i h = refl

pub none_above : (m : ℕ) (xs : List ℕ) → position (λ s. nat_lt m s) xs ≡ None → AllByRecursion (λ s. s ≤ m) xs
none_above m xs h = through m xs (ltb-false _ _ (found_none _ _ h))

within_step : (m x : ℕ) (xs : List ℕ) (over : Bool) → nat_lt m x ≡ over → x ≤ m → length xs ≤ front m xs
    → suc (length xs) ≤ cond (not over) (1 + front m xs) 0
within_step m x xs true e within h = let above = ltb-true m x e in absurd (omega arith)
within_step m x xs false e within h = omega arith

-- if the greatest sample is within maxval, the search finds none over it
within_greatest : (m : ℕ) (xs : List ℕ) (g : ℕ) → fold max g xs ≤ m → (g ≤ m) × (length xs ≤ front m xs)
within_greatest m [] g h = (h, omega arith)
within_greatest m (x ∷ xs) g h =
    let rest = within_greatest m xs (max g x) h in
    (omega arith, within_step m x xs (nat_lt m x) refl (omega arith) rest.1)

not_found : (here : Bool) (i : ℕ) → here ≡ false → cond here (Some i) None ≡ None
not_found true i h = cc
not_found false i h = refl

pub none_above_greatest : (m : ℕ) (xs : List ℕ) → fold max 0 xs ≤ m → position (λ s. nat_lt m s) xs ≡ None
none_above_greatest m xs h = not_found _ _ (le-ltb _ _ (within_greatest m xs 0 h).1)

-- a picture that is a frame unless a sample is over maxval is one if none is found
pub whole_frame : (f : Picture) → IsFormed f → position (λ s. nat_lt f.maxval s) f.samples ≡ None → IsFrame f
whole_frame f formed none = record { formed = formed; each = none_above f.maxval f.samples none }

joined_and : (s e p : Bool) → (s && (e && p)) ≡ ((s && e) && p)
joined_and true e p = refl
joined_and false e p = refl

and_true : (s p : Bool) → p ≡ true → s && p ≡ s
and_true true p h = h
and_true false p h = refl

from_a_pair_on : (xs ys : List ℕ) (i : ℕ) → i < length xs → i < length ys
    → pointwise ◌==◌ (drop i xs) (drop i ys) ≡ ((get_or xs i 0 == get_or ys i 0) && pointwise ◌==◌ (drop (suc i) xs) (drop (suc i) ys))
from_a_pair_on [] ys i h g = absurd (omega arith)
from_a_pair_on (x ∷ xs) [] i h g = absurd (omega arith)
from_a_pair_on (x ∷ xs) (y ∷ ys) zero h g = refl
from_a_pair_on (x ∷ xs) (y ∷ ys) (suc i) h g = from_a_pair_on xs ys i (omega arith) (omega arith)

after_all : (xs ys : List ℕ) (n : ℕ) → length xs ≤ n → length xs ≡ length ys → pointwise ◌==◌ (drop n xs) (drop n ys) ≡ true
after_all [] [] zero h e = refl
after_all [] [] (suc n) h e = refl
after_all [] (y ∷ ys) n h e = absurd (omega arith)
after_all (x ∷ xs) [] n h e = absurd (omega arith)
after_all (x ∷ xs) (y ∷ ys) zero h e = absurd (omega arith)
after_all (x ∷ xs) (y ∷ ys) (suc n) h e = after_all xs ys n (omega arith) (omega arith)

-- one pair more is compared
pub compared_on : (all s : Bool) (xs ys : List ℕ) (i : ℕ) → length xs ≡ length ys → i < length xs
    → all ≡ (s && pointwise ◌==◌ (drop i xs) (drop i ys))
    → all ≡ ((s && (get_or xs i 0 == get_or ys i 0)) && pointwise ◌==◌ (drop (i + 1) xs) (drop (i + 1) ys))
compared_on all s xs ys i e h g =
    let next : suc i ≡ i + 1 = omega arith in
    g ∙ ap (λ rest. s && rest) (from_a_pair_on xs ys i h (omega arith)) ∙ joined_and s _ _
    ∙ ap (λ n. (s && (get_or xs i 0 == get_or ys i 0)) && pointwise ◌==◌ (drop n xs) (drop n ys)) next

-- no pair is left
pub compared_all : (all s : Bool) (xs ys : List ℕ) (n : ℕ) → length xs ≡ length ys → length xs ≤ n
    → all ≡ (s && pointwise ◌==◌ (drop n xs) (drop n ys)) → s ≡ all
compared_all all s xs ys n e h g = sym (g ∙ and_true s _ (after_all xs ys n h e))
