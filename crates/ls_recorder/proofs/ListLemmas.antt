-- Lists that grow at their ends, and lists related element by element.
use Rattle.std.proofs.Common.{◌≡◌, List, [], ◌∷◌, ◌++◌, length, refl, sym, ap, ◌∙◌, arith, append_assoc}
use Rattle.std.specs.List.{AllZip}

-- two related lists grow by an element each
pub zip-more : {A B : Type 0} (R : A → B → Type 0) (xs : List A) (ys : List B) (x : A) (y : B) → AllZip R xs ys → R x y → AllZip R (xs ++ x ∷ []) (ys ++ y ∷ [])
zip-more R [] [] x y all last = (last, tt)
zip-more R [] (v ∷ vs) x y all last = absurd all
zip-more R (u ∷ us) [] x y all last = absurd all
zip-more R (u ∷ us) (v ∷ vs) x y all last = (all.0, zip-more R us vs x y all.1 last)

-- the first elements are related to zs, and the others remain
abbrev pub ZippedSoFar : {A B : Type 0} → (A → B → Type 0) → List A → List A → List B → Type 0
ZippedSoFar {A} R all left zs = (done : List A) × (done ++ left ≡ all) × AllZip R done zs

pub zipped-more : {A B : Type 0} (R : A → B → Type 0) (all left rest : List A) (zs : List B) (x : A) (z : B) → ZippedSoFar R all left zs → left ≡ x ∷ rest → R x z
    → ZippedSoFar R all rest (zs ++ z ∷ [])
zipped-more R all left rest zs x z before first last =
    (before.0 ++ x ∷ [], append_assoc before.0 (x ∷ []) rest ∙ ap (λ l. before.0 ++ l) (sym first) ∙ before.1, zip-more R before.0 zs x z before.2 last)

-- three lists, each related to the next
pub zip-through : {A B C : Type 0} (R : A → B → Type 0) (S : B → C → Type 0) (xs : List A) (ys : List B) (zs : List C) → AllZip R xs ys → AllZip S ys zs
    → AllZip (λ x z. (y : B) × R x y × S y z) xs zs
zip-through R S [] [] [] first second = tt
zip-through R S [] [] (z ∷ zs) first second = absurd second
zip-through R S [] (y ∷ ys) zs first second = absurd first
zip-through R S (x ∷ xs) [] zs first second = absurd first
zip-through R S (x ∷ xs) (y ∷ ys) [] first second = absurd second
zip-through R S (x ∷ xs) (y ∷ ys) (z ∷ zs) first second = ((y, first.0, second.0), zip-through R S xs ys zs first.1 second.1)

pub zip-weaker : {A B : Type 0} (R S : A → B → Type 0) (xs : List A) (ys : List B) → ((x : A) (y : B) → R x y → S x y) → AllZip R xs ys → AllZip S xs ys
zip-weaker R S [] [] weaker all = tt
zip-weaker R S [] (y ∷ ys) weaker all = absurd all
zip-weaker R S (x ∷ xs) [] weaker all = absurd all
zip-weaker R S (x ∷ xs) (y ∷ ys) weaker all = (weaker x y all.0, zip-weaker R S xs ys weaker all.1)

pub zip-length : {A B : Type 0} (R : A → B → Type 0) (xs : List A) (ys : List B) → AllZip R xs ys → length xs ≡ length ys
zip-length R [] [] all = refl
zip-length R [] (y ∷ ys) all = absurd all
zip-length R (x ∷ xs) [] all = absurd all
zip-length R (x ∷ xs) (y ∷ ys) all = let rest = zip-length R xs ys all.1 in omega arith
