-- The lines of a film, one after another.
use Rattle.std.proofs.Common.{◌≡◌, ℕ, suc, ◌+◌, List, [], ◌∷◌, ◌++◌, length, sym, ap, ◌∙◌, arith, append_assoc, append-nil}
use Rattle.ls_frame.specs.Picture.{Picture}
use Rattle.ls_film.specs.Listing.{line, lines_from, lines}

lines_from-push : (n : ℕ) (frames : List Picture) (f : Picture) → lines_from n (frames ++ f ∷ []) ≡ lines_from n frames ++ line (n + length frames) f
lines_from-push n [] f = append-nil (line n f) ∙ (let same : n ≡ n + 0 = omega arith in ap (λ k. line k f) same)
lines_from-push n (g ∷ frames) f =
    let same : (n + 1) + length frames ≡ n + suc (length frames) = omega arith in
    ap (λ s. line n g ++ s) (lines_from-push (n + 1) frames f ∙ ap (λ k. lines_from (n + 1) frames ++ line k f) same)
    ∙ sym (append_assoc (line n g) (lines_from (n + 1) frames) (line (n + suc (length frames)) f))

-- one more line, of the frame whose number is the count of those before
pub lines-push : (frames : List Picture) (f : Picture) (n : ℕ) → length frames ≡ n → lines (frames ++ f ∷ []) ≡ lines frames ++ line n f
lines-push frames f n count = lines_from-push 0 frames f ∙ (let same : 0 + length frames ≡ n = omega arith in ap (λ k. lines frames ++ line k f) same)
