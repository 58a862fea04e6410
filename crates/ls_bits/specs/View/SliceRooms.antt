-- What putting bytes into a `SliceRoom` changes.
use Rattle.std.specs.Prelude.{◌≡◌, ℕ, ◌+◌, ◌-◌, ◌≤◌, List, drop, refl}
use Rattle.std.proofs.Common.{ap, sym, subst, ◌∙◌, arith}
use Rattle.std.proofs.lemmas.List.{drop-drop}

-- it is the same slice, with no fewer bytes put, and its places after those are unchanged
pub record IsGrownSlice (old_name new_name old_len new_len : ℕ) (old new : List ℕ) : Type 0 where
  pub lent : new_name ≡ old_name
  pub longer : old_len ≤ new_len
  pub rest : drop new_len new ≡ drop new_len old

pub same_rest : (n m : ℕ) (xs ys : List ℕ) → n ≤ m → drop n xs ≡ drop n ys → drop m xs ≡ drop m ys
same_rest n m xs ys le same =
    let at : n + (m - n) ≡ m = omega arith in
    subst (λ k. drop k xs ≡ drop k ys) at (sym (drop-drop (m - n) n xs) ∙ ap (drop (m - n)) same ∙ drop-drop (m - n) n ys)

pub slice_grown_not : (name len : ℕ) (places : List ℕ) → IsGrownSlice name name len len places places
slice_grown_not name len places = record { lent = refl; longer = omega arith; rest = refl }

pub slice_grown_twice :
    {name-1 name-2 name-3 len-1 len-2 len-3 : ℕ} {places-1 places-2 places-3 : List ℕ}
    → IsGrownSlice name-1 name-2 len-1 len-2 places-1 places-2
    → IsGrownSlice name-2 name-3 len-2 len-3 places-2 places-3
    → IsGrownSlice name-1 name-3 len-1 len-3 places-1 places-3
slice_grown_twice {len-2 = len-2} {len-3 = len-3} {places-1 = places-1} {places-2 = places-2} first second =
    record {
      lent = second.lent ∙ first.lent;
      longer = omega (arith, first.longer, second.longer);
      rest = second.rest ∙ same_rest len-2 len-3 places-2 places-1 second.longer first.rest;
    }
