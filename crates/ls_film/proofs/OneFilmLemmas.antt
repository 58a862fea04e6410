-- Bytes are a film of at most one list of frames, if images have bytes, none begins another, and each is of one frame.
use Rattle.std.proofs.Common.{◌≡◌, ◌⊎◌, ◌<◌, ℕ, inl, inr, List, [], ◌∷◌, ◌++◌, length, refl, sym, ap, ◌∙◌, arith, append_assoc, append-nil}
use Rattle.std.proofs.lemmas.List.{length-append}
use Rattle.ls_frame.specs.Picture.{Picture}
use Rattle.ls_film.specs.Film.{IsFilm}

-- of two fronts of the same bytes one begins the other
pub two_fronts : (a b c d : List ℕ) → a ++ b ≡ c ++ d
    → ((s : List ℕ) × (c ≡ a ++ s) × (b ≡ s ++ d)) ⊎ ((s : List ℕ) × (a ≡ c ++ s) × (d ≡ s ++ b))
two_fronts [] b c d whole = inl (c, refl, whole)
two_fronts (x ∷ a) b [] d whole = inr (x ∷ a, refl, sym whole)
two_fronts (x ∷ a) b (y ∷ c) d whole =
    let head : x ≡ y = cc in
    let tail : a ++ b ≡ c ++ d = cc in
    elim (two_fronts a b c d tail) [
      | inl first ↦ inl (first.0, cc, first.2)
      | inr second ↦ inr (second.0, cc, second.2)
    ]

module _ (IsImage : List ℕ → Picture → Type 0)
    (some : (bytes : List ℕ) (f : Picture) → IsImage bytes f → 0 < length bytes)
    (only : (one other rest : List ℕ) (f g : Picture) → IsImage one f → IsImage other g → other ≡ one ++ rest → rest ≡ [])
    (same : (bytes : List ℕ) (f g : Picture) → IsImage bytes f → IsImage bytes g → f ≡ g) where
  -- no bytes are a film of no frames
  pub no_frames : (frames : List Picture) → IsFilm IsImage [] frames → frames ≡ []
  no_frames [] film = refl
  no_frames (f ∷ frames) film = absurd (omega (arith, ap length film.2, length-append film.0 film.1, some film.0 f film.3))

  -- bytes begin with at most one image, and it is of one frame
  same_front : (a b c d : List ℕ) (f g : Picture) → a ++ b ≡ c ++ d → IsImage a f → IsImage c g → (f ≡ g) × (b ≡ d)
  same_front a b c d f g whole one other = elim (two_fronts a b c d whole) [
    | inl first ↦
        let none : first.0 ≡ [] = only a c first.0 f g one other first.1 in
        let is : c ≡ a = first.1 ∙ ap (λ s. a ++ s) none ∙ append-nil a in
        (same a f g one (rw (sym is) other), first.2 ∙ ap (λ s. s ++ d) none)
    | inr second ↦
        let none : second.0 ≡ [] = only c a second.0 g f other one second.1 in
        let is : a ≡ c = second.1 ∙ ap (λ s. c ++ s) none ∙ append-nil c in
        (same c f g (rw (sym is) one) other, sym (second.2 ∙ ap (λ s. s ++ b) none))
  ]

  -- the frames of a front are the film's first frames, and what follows is a film of the others
  pub more_frames : (front rest all : List ℕ) (first frames : List Picture) → all ≡ front ++ rest → IsFilm IsImage front first → IsFilm IsImage all frames
      → (more : List Picture) × (frames ≡ first ++ more) × IsFilm IsImage rest more
  more_frames front rest all [] frames whole none film =
      (frames, refl, rw (sym (whole ∙ ap (λ s. s ++ rest) none)) film)
  more_frames front rest all (g ∷ first) [] whole begins film =
      absurd (omega (arith, ap length film, ap length whole, length-append front rest, ap length begins.2, length-append begins.0 begins.1, some begins.0 g begins.3))
  more_frames front rest all (g ∷ first) (f ∷ frames) whole begins film =
      let split : film.0 ++ film.1 ≡ begins.0 ++ (begins.1 ++ rest) =
      sym film.2 ∙ whole ∙ ap (λ s. s ++ rest) begins.2 ∙ append_assoc begins.0 begins.1 rest in
      let alike = same_front film.0 film.1 begins.0 (begins.1 ++ rest) f g split film.3 begins.3 in
      let next = more_frames begins.1 rest film.1 first frames alike.1 begins.4 film.4 in
      (next.0, cc, next.2)

  -- a film has one list of frames
  pub one_film : (film : List ℕ) (frames others : List Picture) → IsFilm IsImage film frames → IsFilm IsImage film others → others ≡ frames
  one_film film frames others whole again =
      let more = more_frames film [] film frames others (sym (append-nil film)) whole again in
      more.1 ∙ ap (λ s. frames ++ s) (no_frames more.0 more.2) ∙ append-nil frames
