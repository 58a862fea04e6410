use Rattle.std.proofs.Common.{◌≡◌, ℕ, List, [], ◌∷◌, ap, ◌∙◌}
use Rattle.ls_archive.specs.Index.{Entry, columns}
use Rattle.ls_archive.proofs.entry.Indexed.columns.Goals as goal

-- lists of equal numbers are equal
eight : (a b c d e f g h a' b' c' d' e' f' g' h' : ℕ) → a ≡ a' → b ≡ b' → c ≡ c' → d ≡ d' → e ≡ e' → f ≡ f' → g ≡ g' → h ≡ h'
    → ◌≡◌ {A = List ℕ} (a ∷ b ∷ c ∷ d ∷ e ∷ f ∷ g ∷ h ∷ []) (a' ∷ b' ∷ c' ∷ d' ∷ e' ∷ f' ∷ g' ∷ h' ∷ [])
eight a b c d e f g h a' b' c' d' e' f' g' h' pa pb pc pd pe pf pg ph = cc

pub returns : goal.returns
unfolding columns
returns c =
    let is = c.self.view_is in
    eight _ _ _ _ _ _ _ _ _ _ _ _ _ _ _ _
    (c.from.ensures ∙ ap (λ (e : Entry). e.width) is)
    (c.from-2.ensures ∙ ap (λ (e : Entry). e.height) is)
    (c.from-3.ensures ∙ c.maxval.ensures.value ∙ ap (λ (e : Entry). e.parameters.maxval) is)
    (c.from-4.ensures ∙ ap (λ (e : Entry). e.precision) is)
    (c.from-5.ensures ∙ c.t1.ensures.value ∙ ap (λ (e : Entry). e.parameters.t1) is)
    (c.from-6.ensures ∙ c.t2.ensures.value ∙ ap (λ (e : Entry). e.parameters.t2) is)
    (c.from-7.ensures ∙ c.t3.ensures.value ∙ ap (λ (e : Entry). e.parameters.t3) is)
    (c.from-8.ensures ∙ c.reset.ensures.value ∙ ap (λ (e : Entry). e.parameters.reset) is)
