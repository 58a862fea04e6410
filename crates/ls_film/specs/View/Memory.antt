-- What an engine does with a film in memory, where all bytes are known.
use Rattle.std.specs.Prelude.{◌≡◌, ℕ, ◌<◌, ◌≤◌, List, [], ◌∷◌, ◌++◌, length, take}
use Rattle.ls_frame.specs.Picture.{Picture}
use Rattle.ls_frame.specs.Netpbm.{IsImageOf, BeginsWithHeading}
use Rattle.ls_frame.specs.Faults.{IsBroken}
use Rattle.ls_film.specs.Film.{most_frames, IsFilm}
use Rattle.ls_film.specs.declared.faults.FilmFault.{FilmFault}
use Rattle.ls_film.specs.declared.faults.FilmFault.TheVariants.{Input, Output, NoMemory, TooMany}

-- The film is n images, and out is the text of their frames.
pub record IsTextOf (text : List Picture → List ℕ) (film out : List ℕ) (n : ℕ) : Type 0 where
  pub frames : List Picture
  pub count : length frames ≡ n
  pub few : length frames ≤ most_frames
  pub whole : IsFilm IsImageOf film frames
  pub wrote : out ≡ text frames

-- The film begins with images of these frames, and P holds of what follows them.
pub record BeginsFilm (film : List ℕ) (frames : List Picture) (P : List ℕ → Type 0) : Type 0 where
  pub front : List ℕ
  pub rest : List ℕ
  pub whole : film ≡ front ++ rest
  pub begins : IsFilm IsImageOf front frames
  pub follows : P rest

-- The film begins with images of at most `most_frames` frames, out is their text, and P holds of what follows them.
pub record IsTextBefore (text : List Picture → List ℕ) (film out : List ℕ) (P : List ℕ → Type 0) : Type 0 where
  pub frames : List Picture
  pub few : length frames ≤ most_frames
  pub begins : BeginsFilm film frames P
  pub wrote : out ≡ text frames

-- at least one byte
abbrev pub HasBytes : List ℕ → Type 0
HasBytes bytes = 0 < length bytes

-- no condition on the bytes
abbrev pub AnyBytes : List ℕ → Type 0
AnyBytes bytes = Unit {0}

-- what each fault says of the film and of what was written
abbrev pub StopsOver : (List Picture → List ℕ) → List ℕ → List ℕ → FilmFault → Type 0
StopsOver text film out (Input m fault) = (before : IsTextBefore text film out (λ rest. IsBroken rest fault)) × (length before.frames ≡ m)
StopsOver text film out (Output bytes) =
    (frames : List Picture) × (length frames ≤ most_frames) × BeginsFilm film frames AnyBytes × (bytes < length (text frames)) × (out ≡ take bytes (text frames))
StopsOver text film out NoMemory = IsTextBefore text film out BeginsWithHeading
StopsOver text film out TooMany =
    (frames : List Picture) × (last : Picture) × BeginsFilm film (frames ++ last ∷ []) AnyBytes × (length frames ≡ most_frames) × (out ≡ text frames)
