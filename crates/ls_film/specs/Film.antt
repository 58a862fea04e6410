-- A film: images of frames, joined with nothing between them. What an image of a frame is, is a parameter: a Netpbm image in a film to
-- record, a codestream in a recording to play.
use Rattle.std.specs.Prelude.{◌≡◌, ℕ, ◌-◌, ◌^◌, List, [], ◌∷◌, ◌++◌}
use Rattle.ls_frame.specs.Picture.{Picture}

-- the most frames of a film
abbrev pub most_frames : ℕ
most_frames = 2 ^ 32 - 1

module _ (IsImage : List ℕ → Picture → Type 0) where
  -- The bytes are a film: images of these frames, joined with nothing between them.
  abbrev pub IsFilm : List ℕ → List Picture → Type 0
  IsFilm bytes [] = bytes ≡ []
  IsFilm bytes (f ∷ frames) = (image : List ℕ) × (rest : List ℕ) × (bytes ≡ image ++ rest) × IsImage image f × IsFilm rest frames
