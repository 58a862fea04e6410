use Rattle.std.proofs.Common.{◌≡◌, ℕ, List, [], ◌∷◌, ap, ◌∙◌}
use Rattle.ls_frame.specs.Parameters.{Parameters, default_parameters, bpp_of, limit_of}
use Rattle.ls_film.specs.Listing.{columns}
use Rattle.ls_film.proofs.listing.columns.Goals as goal

-- lists of equal numbers are equal
nine : (a b c d e f g h i a' b' c' d' e' f' g' h' i' : ℕ) → a ≡ a' → b ≡ b' → c ≡ c' → d ≡ d' → e ≡ e' → f ≡ f' → g ≡ g' → h ≡ h' → i ≡ i'
    → ◌≡◌ {A = List ℕ} (a ∷ b ∷ c ∷ d ∷ e ∷ f ∷ g ∷ h ∷ i ∷ []) (a' ∷ b' ∷ c' ∷ d' ∷ e' ∷ f' ∷ g' ∷ h' ∷ i' ∷ [])
nine a b c d e f g h i a' b' c' d' e' f' g' h' i' pa pb pc pd pe pf pg ph pi = cc

pub returns : goal.returns
unfolding columns
returns c =
    let asked : c.maxval.result ≡ c.args.frame.now.maxval = c.maxval.ensures.value in
    let presets : c.default_of-presets.result ≡ default_parameters c.args.frame.now.maxval = c.default_of-presets.ensures.value ∙ ap default_parameters asked in
    let same : c.default_of-presets.result.maxval ≡ c.args.frame.now.maxval = c.default_of-presets.ensures.maxval ∙ asked in
    nine _ _ _ _ _ _ _ _ _ _ _ _ _ _ _ _ _ _
    (c.from.ensures ∙ c.width.ensures.value)
    (c.from-2.ensures ∙ c.height.ensures.value)
    (c.from-3.ensures ∙ c.maxval-2.ensures.value)
    (c.bpp.ensures.value ∙ ap bpp_of same)
    (c.from-4.ensures ∙ c.t1.ensures.value ∙ ap (λ (p : Parameters). p.t1) presets)
    (c.from-5.ensures ∙ c.t2.ensures.value ∙ ap (λ (p : Parameters). p.t2) presets)
    (c.from-6.ensures ∙ c.t3.ensures.value ∙ ap (λ (p : Parameters). p.t3) presets)
    (c.from-7.ensures ∙ c.reset.ensures.value ∙ ap (λ (p : Parameters). p.reset) presets)
    (c.limit.ensures.value ∙ ap limit_of same)
