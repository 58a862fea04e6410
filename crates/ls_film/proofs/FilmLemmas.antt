-- A film, frame by frame: lemmas of every engine that reads one. What an image of a frame is, is a parameter, as in `Film`.
use Rattle.std.proofs.Common.{◌≡◌, ℕ, List, [], ◌∷◌, ◌++◌, Option, refl, sym, ap, ◌∙◌, append_assoc, append-nil}
use Rattle.std.specs.List.{AllByRecursion}
use Rattle.ls_frame.specs.Picture.{Picture}
use Rattle.ls_frame.specs.View.Known.{Tells, Gave, WasAtEnd, known}
use Rattle.ls_film.specs.Film.{IsFilm}
use Rattle.ls_film.specs.View.Given.{GaveFrames, GaveFramesAnd, GaveFilm, IsBrokenAfter, BeginsWithFrames}

-- one more element, of which P holds too
pub all-more : {A : Type 0} (P : A → Type 0) (xs : List A) (x : A) → AllByRecursion P xs → P x → AllByRecursion P (xs ++ x ∷ [])
all-more P [] x all last = (last, _)
all-more P (y ∷ ys) x all last = (all.0, all-more P ys x all.1 last)

-- a weaker claim on the bytes that were given
pub Gave-weaker : (old new : Option (List ℕ)) (P Q : List ℕ → Type 0) → Gave old new P → ((bytes : List ℕ) → P bytes → Q bytes) → Gave old new Q
Gave-weaker old new P Q gives weaker = λ told. let gave = gives told in (gave.0, gave.1, gave.2, weaker gave.1 gave.3)

module _ (IsImage : List ℕ → Picture → Type 0) where
  -- a film grows by an image at its end
  pub IsFilm-push : (film image : List ℕ) (frames : List Picture) (f : Picture) → IsFilm IsImage film frames → IsImage image f → IsFilm IsImage (film ++ image) (frames ++ f ∷ [])
  IsFilm-push film image [] f none spelled =
      (image, [], ap (λ s. s ++ image) none ∙ sym (append-nil image), spelled, refl)
  IsFilm-push film image (g ∷ frames) f whole spelled =
      (whole.0, whole.1 ++ image, ap (λ s. s ++ image) whole.2 ∙ append_assoc whole.0 whole.1 image, whole.3, IsFilm-push whole.1 image frames f whole.4 spelled)

  -- before the first frame
  pub GaveFrames-none : (old : Option (List ℕ)) → GaveFrames IsImage old old []
  GaveFrames-none old = λ told. (told, [], refl, refl)

  -- one more frame
  pub GaveFrames-more : (old mid new : Option (List ℕ)) (frames : List Picture) (f : Picture) → GaveFrames IsImage old mid frames → Gave mid new (λ image. IsImage image f)
      → GaveFrames IsImage old new (frames ++ f ∷ [])
  GaveFrames-more old mid new frames f before next = λ told.
      let front = before told in
      let image = next front.0 in (
        image.0,
        front.1 ++ image.1,
        front.2 ∙ ap (λ s. front.1 ++ s) image.2 ∙ sym (append_assoc front.1 image.1 (known new)),
        IsFilm-push front.1 image.1 frames f front.3 image.3,
      )

  -- more bytes, which aren't a complete frame
  pub GaveFrames-and : (old mid new : Option (List ℕ)) (frames : List Picture) (P Q : List ℕ → Type 0) → GaveFrames IsImage old mid frames → Gave mid new P
      → ((bytes : List ℕ) → P bytes → Q bytes) → GaveFramesAnd IsImage old new frames Q
  GaveFrames-and old mid new frames P Q before next weaker = λ told.
      let front = before told in
      let last = next front.0 in (
        last.0,
        front.1 ++ last.1,
        front.2 ∙ ap (λ s. front.1 ++ s) last.2 ∙ sym (append_assoc front.1 last.1 (known new)),
        (front.1, last.1, refl, front.3, weaker last.1 last.3),
      )

  -- the end
  pub GaveFilm-end : (old mid new : Option (List ℕ)) (frames : List Picture) → GaveFrames IsImage old mid frames → WasAtEnd mid new → GaveFilm IsImage old new frames
  GaveFilm-end old mid new frames before end = λ told.
      let front = before told in
      let none = end front.0 in
      let whole : known old ≡ front.1 = front.2 ∙ ap (λ s. front.1 ++ s) none.1 ∙ append-nil front.1 in
      (none.0, none.2, rw whole front.3)

  -- the next image is malformed
  pub IsBrokenAfter-next : (old mid : Option (List ℕ)) (frames : List Picture) (IsBroken : List ℕ → Type 0) → GaveFrames IsImage old mid frames
      → (Tells mid → IsBroken (known mid)) → IsBrokenAfter IsImage old frames IsBroken
  IsBrokenAfter-next old mid frames IsBroken before broken = λ told.
      let front = before told in
      (front.1, known mid, front.2, front.3, broken front.0)

  -- the input begins with the frames so far
  pub BeginsWithFrames-gave : (old mid : Option (List ℕ)) (frames : List Picture) → GaveFrames IsImage old mid frames → BeginsWithFrames IsImage old frames
  BeginsWithFrames-gave old mid frames before = λ told. let front = before told in (front.1, known mid, front.2, front.3)
