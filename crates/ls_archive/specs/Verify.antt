-- The verdict on the frames of a film and of a recording.
use Rattle.std.specs.Prelude.{◌≡◌, ◌≢◌, ◌==◌, ◌&&◌, ℕ, if◌then◌else◌, List, ◌∷◌, ◌++◌, length}
use Rattle.ls_frame.specs.Picture.{Picture, same_kind}
use Rattle.ls_archive.specs.declared.verifying.Difference.{Difference}
use Rattle.ls_archive.specs.declared.verifying.Difference.TheVariants.{Kinds, Sizes, Maxvals, Samples}
use Rattle.ls_archive.specs.declared.verifying.Verdict.{Verdict}
use Rattle.ls_archive.specs.declared.verifying.Verdict.TheVariants.{Same, Differs, Missing, Extra}

-- the first difference of two pictures: their kinds; or else their sizes; or else their maxvals; or else samples
abbrev pub difference_of : Picture → Picture → Difference
difference_of f g =
    if same_kind f.kind g.kind
    then (if f.width == g.width && f.height == g.height then (if f.maxval == g.maxval then Samples else Maxvals f.maxval g.maxval) else Sizes f.width f.height g.width g.height)
    else Kinds f.kind g.kind

-- The first n frames of both are equal; then each has a frame, and these two differ in this.
pub record DifferAt (frames others : List Picture) (n : ℕ) (what : Difference) : Type 0 where
  pub first : List Picture
  pub f : Picture
  pub g : Picture
  pub frames_left : List Picture
  pub others_left : List Picture
  pub count : length first ≡ n
  pub frames_are : frames ≡ first ++ f ∷ frames_left
  pub others_are : others ≡ first ++ g ∷ others_left
  pub differ : f ≢ g
  pub what_is : what ≡ difference_of f g

-- The others are the first n frames, and at least one frame follows these.
pub record EndAt (others frames : List Picture) (n : ℕ) : Type 0 where
  pub f : Picture
  pub left : List Picture
  pub count : length others ≡ n
  pub frames_are : frames ≡ others ++ f ∷ left

-- what each verdict says of the film's frames and of the recording's
abbrev pub Compares : List Picture → List Picture → Verdict → Type 0
Compares frames others (Same n) = (others ≡ frames) × (length frames ≡ n)
Compares frames others (Differs n what) = DifferAt frames others n what
Compares frames others (Missing n) = EndAt others frames n
Compares frames others (Extra n) = EndAt frames others n

-- ---- laws

-- Two lists of frames have at most one verdict; so film and recording are the same exactly if their frames are equal.
abbrev pub OneVerdict : Type 0
OneVerdict = (frames others : List Picture) (v w : Verdict) → Compares frames others v → Compares frames others w → v ≡ w

abbrev pub SomeVerdict : Type 0
SomeVerdict = (frames others : List Picture) → (v : Verdict) × Compares frames others v
