-- Where a source of images stands, and what it gives. What an image is of a frame, what is made of a frame, what a fault says of the known
-- bytes, and where the source stands (its place and its reader's), are parameters.
use Rattle.std.specs.Prelude.{◌≡◌, ℕ, List, Option, Some, None, Result, Ok, Err}
use Rattle.ls_frame.specs.Canonical.{canonical}
use Rattle.ls_frame.specs.Picture.{Picture, IsFrame}
use Rattle.ls_frame.specs.View.Known.{Gave, WasAtEnd}
use Rattle.ls_film.specs.View.Engine.{HasRun}

-- What the next image gives, where the source stood at the place: what is made of its frame, and the place is after it; nothing at the end,
-- where the reader is; or why it can't be read.
abbrev pub GivesImage : {S T E : Type 0} → (List ℕ → Picture → Type 0) → (Picture → T → Type 0) → (E → Option (List ℕ) → Option (List ℕ) → Type 0)
    → (S → Option (List ℕ) → Option (List ℕ) → Type 0) → Option (List ℕ) → Option (List ℕ) → S → Result (Option T) E → Type 0
GivesImage IsImage made Unread stands place read source (Ok (Some item)) =
    (place' : Option (List ℕ)) × stands source place' read × (f : Picture) × (IsFrame f × Gave place place' (λ bytes. IsImage bytes f)) × made f item
GivesImage IsImage made Unread stands place read source (Ok None) = WasAtEnd place read
GivesImage IsImage made Unread stands place read source (Err fault) =
    (place' : Option (List ℕ)) × stands source place' read × Unread fault place read

-- The source, which stood at the first place, stands after n frames, whose text, of this many bytes, was written.
abbrev pub StandsAfter : {S : Type 0} → (List ℕ → Picture → Type 0) → (List Picture → List ℕ) → (S → Option (List ℕ) → Option (List ℕ) → Type 0)
    → S → Option (List ℕ) → Option (List ℕ) → Option (List ℕ) → Option (List ℕ) → ℕ → ℕ → Type 0
StandsAfter IsImage text stands source place read written written' n bytes =
    (place' : Option (List ℕ)) × stands source place' read × HasRun IsImage text place place' written written' n bytes

-- ---- what is made of a frame

-- the frame itself
abbrev pub IsItself : Picture → Picture → Type 0
IsItself f same = same ≡ f

-- its canonical Netpbm image
abbrev pub IsShown : Picture → List ℕ → Type 0
IsShown f image = image ≡ canonical f
