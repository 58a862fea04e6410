-- Elements of a list by index.
use Rattle.std.proofs.Common.{◌≡◌, ℕ, zero, suc, ◌<◌, List, [], ◌∷◌, length, sym, subst, arith}
use Rattle.std.specs.Prelude.{slice_index_or}
use Rattle.std.specs.List.{AllByRecursion}

-- what holds of each element holds of the one at an index
pub at_place : {A : Type 0} (P : A → Type 0) (xs : List A) → AllByRecursion P xs → (i : ℕ) (x : A) → i < length xs → x ≡ slice_index_or xs i x → P x
at_place P [] all i x below is = absurd (omega arith)
at_place P (y ∷ ys) all zero x below is = subst P (sym is) all.0
at_place P (y ∷ ys) all (suc i) x below is = at_place P ys all.1 i x (omega arith) is
