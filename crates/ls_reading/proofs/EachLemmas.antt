-- What holds of the files of a list so far, with one more.
use Rattle.std.proofs.Common.{◌≡◌, ◌≤◌, ◌<◌, ◌+◌, ℕ, inl, inr, List, length, get_or, sym, ap, subst, ◌∙◌, arith}
use Rattle.std.specs.List.{AllWithin}
use Rattle.std.proofs.lemmas.Bool.{cases_order}
use Rattle.std.proofs.lemmas.List.{get_or_default}

pub one-more : {A : Type 0} (P : A → Type 0) (files : List A) (n : ℕ) (e : A) → n < length files → AllWithin P files 0 n → P (get_or files n e) → AllWithin P files 0 (n + 1)
one-more P files n e inside so_far last = λ k d low less. elim (cases_order k n) [
  | inl same ↦ subst P (get_or_default files n e d inside ∙ ap (λ j. get_or files j d) (sym same)) last
  | inr (inl before) ↦ so_far k d low before
  | inr (inr after) ↦ absurd (omega (arith, less, after))
]
