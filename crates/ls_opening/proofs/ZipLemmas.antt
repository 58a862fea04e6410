-- Lists that are related element by element, as a loop goes over the first and makes the second or uses it up.
use Rattle.std.proofs.Common.{◌≡◌, ℕ, ◌+◌, ◌<◌, List, [], ◌∷◌, ◌++◌, length, sym, subst, arith}
use Rattle.std.specs.Prelude.{take, drop, remove, get_or, slice_index_or}
use Rattle.std.specs.List.{AllZip}
use Rattle.std.proofs.lemmas.List.{take_more, drop_more}
use Rattle.std.proofs.lemmas.Slice.Zip.{all_zipped_more}

-- one more element is made
pub zip-next-or : {A B : Type 0} (R : A → B → Type 0) (xs : List A) (i : ℕ) (ys : List B) (d : A) (y : B) → i < length xs → AllZip R (take i xs) ys → R (get_or xs i d) y
    → AllZip R (take (i + 1) xs) (ys ++ y ∷ [])
zip-next-or R xs i ys d y less all last = subst (λ l. AllZip R l (ys ++ y ∷ [])) (sym (take_more xs i d less)) (all_zipped_more R (take i xs) ys (get_or xs i d) y all last)

-- the same where it is made of the next element x
pub zip-next : {A B : Type 0} (R : A → B → Type 0) (xs : List A) (i : ℕ) (ys : List B) (x : A) (y : B) → i < length xs → x ≡ get_or xs i x → AllZip R (take i xs) ys → R x y
    → AllZip R (take (i + 1) xs) (ys ++ y ∷ [])
zip-next R xs i ys x y less is all last = zip-next-or R xs i ys x y less all (subst (λ z. R z y) is last)

zip-head : {A B : Type 0} (R : A → B → Type 0) (x : A) (xs : List A) (ys rest : List B) (y : B) → AllZip R (x ∷ xs) ys → y ≡ slice_index_or ys 0 y → rest ≡ remove ys 0
    → R x y × AllZip R xs rest
zip-head R x xs [] rest y all first left = absurd all
zip-head R x xs (v ∷ vs) rest y all first left = (subst (R x) (sym first) all.0, subst (AllZip R xs) (sym left) all.1)

-- the first element that is left is used up
pub zip-first : {A B : Type 0} (R : A → B → Type 0) (xs : List A) (i : ℕ) (ys rest : List B) (x : A) (y : B) → i < length xs → x ≡ get_or xs i x → AllZip R (drop i xs) ys
    → y ≡ slice_index_or ys 0 y → rest ≡ remove ys 0 → R x y × AllZip R (drop (i + 1) xs) rest
zip-first R xs i ys rest x y less is all first left =
    let both = zip-head R (get_or xs i x) (drop (i + 1) xs) ys rest y (subst (λ l. AllZip R l ys) (drop_more xs i x less) all) first left in
    (subst (λ z. R z y) (sym is) both.0, both.1)

some-of : {A B : Type 0} (R : A → B → Type 0) (x : A) (xs : List A) (ys : List B) → AllZip R (x ∷ xs) ys → 0 < length ys
some-of R x xs [] all = absurd all
some-of R x xs (y ∷ ys) all = omega arith

-- there is one
pub zip-some : {A B : Type 0} (R : A → B → Type 0) (xs : List A) (i : ℕ) (ys : List B) (x : A) → i < length xs → AllZip R (drop i xs) ys → 0 < length ys
zip-some R xs i ys x less all = some-of R (get_or xs i x) (drop (i + 1) xs) ys (subst (λ l. AllZip R l ys) (drop_more xs i x less) all)

-- three lists, each related to the next
pub zip-chain : {A B C : Type 0} (R : A → B → Type 0) (S : B → C → Type 0) (T : A → C → Type 0) (xs : List A) (ys : List B) (zs : List C)
    → ((x : A) (y : B) (z : C) → R x y → S y z → T x z) → AllZip R xs ys → AllZip S ys zs → AllZip T xs zs
zip-chain R S T [] [] [] both first second = tt
zip-chain R S T [] [] (z ∷ zs) both first second = absurd second
zip-chain R S T [] (y ∷ ys) zs both first second = absurd first
zip-chain R S T (x ∷ xs) [] zs both first second = absurd first
zip-chain R S T (x ∷ xs) (y ∷ ys) [] both first second = absurd second
zip-chain R S T (x ∷ xs) (y ∷ ys) (z ∷ zs) both first second = (both x y z first.0 second.0, zip-chain R S T xs ys zs both first.1 second.1)
