-- The text that an engine writes for a film's frames.
use Rattle.std.specs.Prelude.{◌≡◌, ℕ, List, [], ◌∷◌, ◌++◌, length}
use Rattle.ls_frame.specs.Picture.{Picture}

-- The text of n frames and then this frame is the text of the n frames and then this chunk.
abbrev pub GrowsBy : (List Picture → List ℕ) → ℕ → Picture → List ℕ → Type 0
GrowsBy text n f chunk = (frames : List Picture) → length frames ≡ n → text (frames ++ f ∷ []) ≡ text frames ++ chunk
