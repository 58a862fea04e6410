-- A block of samples that are examined ahead.
use Rattle.std.proofs.Common.{◌≡◌, ℕ, ◌+◌, ◌-◌, ◌<◌, ◌≤◌, ℤ, pos, List, length, get_or, sym, ◌∙◌, ap, subst, inl, inr, arith}
use Rattle.std.proofs.Math.ListN.{set}
use Rattle.std.proofs.lemmas.Bool.{cases_lt}
use Rattle.std.proofs.lemmas.List.{get_or-set_same, get_or-set_other}
use Rattle.ls_coding.specs.declared.mirrored.Mirrored.{Mirrored}
use Rattle.ls_stream.specs.declared.decode.row.FromAbove.{FromAbove}

abbrev made : ℕ → ℕ → ℕ → Mirrored
made context prediction sample = record { context = context; prediction = prediction; sample = sample }

same_parts : (a b c x y z : ℕ) → a ≡ x → b ≡ y → c ≡ z → made x y z ≡ made a b c
same_parts a b c x y z e f g = ap (λ n. made n y z) (sym e) ∙ ap (λ n. made a n z) (sym f) ∙ ap (made a b) (sym g)

-- something holds of one more place
pub one_more : (xs ys zs : List ℕ) (start k : ℕ) (one : Mirrored) (P : ℕ → Mirrored → Type 0) → start ≤ k → k - start < length xs → k - start < length ys → k - start < length zs → P k one
    → ((j : ℕ) → start ≤ j → j < k → P j (made (get_or xs (j - start) 0) (get_or ys (j - start) 0) (get_or zs (j - start) 0)))
    → (j : ℕ) → start ≤ j → j < k + 1
    → P j (made (get_or (set xs (k - start) one.context) (j - start) 0) (get_or (set ys (k - start) one.prediction) (j - start) 0) (get_or (set zs (k - start) one.sample) (j - start) 0))
one_more xs ys zs start k one P from in_xs in_ys in_zs here before j low high =
    elim (cases_lt j k) [
      | inl earlier ↦
          subst (P j)
          (same_parts _ _ _ _ _ _ (get_or-set_other xs (k - start) (j - start) one.context 0 (λ e. omega arith)) (get_or-set_other ys (k - start) (j - start) one.prediction 0 (λ e. omega arith))
          (get_or-set_other zs (k - start) (j - start) one.sample 0 (λ e. omega arith)))
          (before j low earlier)
      | inr later ↦
          let same : k ≡ j = omega arith in
          subst (λ n. P n (made (get_or (set xs (k - start) one.context) (n - start) 0) (get_or (set ys (k - start) one.prediction) (n - start) 0) (get_or (set zs (k - start) one.sample) (n - start) 0))) same
          (subst (P k)
          (same_parts _ _ _ _ _ _ (get_or-set_same xs (k - start) one.context 0 in_xs) (get_or-set_same ys (k - start) one.prediction 0 in_ys) (get_or-set_same zs (k - start) one.sample 0 in_zs)) here)
    ]

-- ---- a block of what the line above decides

abbrev seen : ℤ → ℕ → ℕ → FromAbove
seen half rise fall = record { half = half; rise = rise; fall = fall }

same_seen : (a x : ℤ) (b c y z : ℕ) → a ≡ x → b ≡ y → c ≡ z → seen x y z ≡ seen a b c
same_seen a x b c y z e f g = ap (λ n. seen n y z) (sym e) ∙ ap (λ n. seen a n z) (sym f) ∙ ap (seen a b) (sym g)

pub one_more_above : (xs : List ℤ) (ys zs : List ℕ) (start k : ℕ) (half : ℤ) (rise fall : ℕ) (P : ℕ → FromAbove → Type 0)
    → start ≤ k → k - start < length xs → k - start < length ys → k - start < length zs → P k (seen half rise fall)
    → ((j : ℕ) → start ≤ j → j < k → P j (seen (get_or xs (j - start) (pos 0)) (get_or ys (j - start) 0) (get_or zs (j - start) 0)))
    → (j : ℕ) → start ≤ j → j < k + 1
    → P j (seen (get_or (set xs (k - start) half) (j - start) (pos 0)) (get_or (set ys (k - start) rise) (j - start) 0) (get_or (set zs (k - start) fall) (j - start) 0))
one_more_above xs ys zs start k half rise fall P from in_xs in_ys in_zs here before j low high =
    elim (cases_lt j k) [
      | inl earlier ↦
          subst (P j)
          (same_seen _ _ _ _ _ _ (get_or-set_other xs (k - start) (j - start) half (pos 0) (λ e. omega arith)) (get_or-set_other ys (k - start) (j - start) rise 0 (λ e. omega arith))
          (get_or-set_other zs (k - start) (j - start) fall 0 (λ e. omega arith)))
          (before j low earlier)
      | inr later ↦
          let same : k ≡ j = omega arith in
          subst (λ n. P n (seen (get_or (set xs (k - start) half) (n - start) (pos 0)) (get_or (set ys (k - start) rise) (n - start) 0) (get_or (set zs (k - start) fall) (n - start) 0))) same
          (subst (P k)
          (same_seen _ _ _ _ _ _ (get_or-set_same xs (k - start) half (pos 0) in_xs) (get_or-set_same ys (k - start) rise 0 in_ys) (get_or-set_same zs (k - start) fall 0 in_zs)) here)
    ]
