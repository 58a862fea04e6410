-- What a reader gave: a film, or its first frames. The reader's known bytes before and after come first; what an image of a frame is, is a
-- parameter, as in `Film`.
use Rattle.std.specs.Prelude.{◌≡◌, ℕ, List, [], ◌++◌, Option}
use Rattle.ls_frame.specs.Picture.{Picture}
use Rattle.ls_frame.specs.View.Known.{Tells, Gave, known}
use Rattle.ls_film.specs.Film.{IsFilm}

module _ (IsImage : List ℕ → Picture → Type 0) where
  -- The reader gave these frames.
  abbrev pub GaveFrames : Option (List ℕ) → Option (List ℕ) → List Picture → Type 0
  GaveFrames old new frames = Gave old new (λ bytes. IsFilm IsImage bytes frames)

  -- The reader gave these frames, and then bytes, of which P holds.
  abbrev pub GaveFramesAnd : Option (List ℕ) → Option (List ℕ) → List Picture → (List ℕ → Type 0) → Type 0
  GaveFramesAnd old new frames P = Gave old new (λ bytes. (film : List ℕ) × (last : List ℕ) × (bytes ≡ film ++ last) × IsFilm IsImage film frames × P last)

  -- The reader gave this film, and is at its end.
  abbrev pub GaveFilm : Option (List ℕ) → Option (List ℕ) → List Picture → Type 0
  GaveFilm old new frames = Tells old → Tells new × (known new ≡ []) × IsFilm IsImage (known old) frames

  -- The input begins with these frames.
  abbrev pub BeginsWithFrames : Option (List ℕ) → List Picture → Type 0
  BeginsWithFrames old frames = Tells old → (film : List ℕ) × (rest : List ℕ) × (known old ≡ film ++ rest) × IsFilm IsImage film frames

  -- The input begins with these frames, and `IsBroken` holds of what follows them.
  abbrev pub IsBrokenAfter : Option (List ℕ) → List Picture → (List ℕ → Type 0) → Type 0
  IsBrokenAfter old frames IsBroken = Tells old →
      (film : List ℕ) × (rest : List ℕ) × (known old ≡ film ++ rest) × IsFilm IsImage film frames × IsBroken rest
