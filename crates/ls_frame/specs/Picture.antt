-- What a frame is: a picture within the limits.
use Rattle.std.specs.Prelude.{◌≡◌, ℕ, ◌*◌, ◌^◌, ◌<◌, ◌≤◌, Bool, true, false, ◌&&◌, ◌||◌, ◌==◌, not, nat_lt, List, length, Option, Some, if◌then◌else◌, position, option_map}
use Rattle.std.specs.List.{AllByRecursion}
use lib.Pointwise.{pointwise}
use Rattle.ls_frame.specs.declared.frame.Kind.{Kind}
use Rattle.ls_frame.specs.declared.frame.Kind.TheVariants.{Gray, Color}
use Rattle.ls_frame.specs.declared.frame.Form.{Form}
use Rattle.ls_frame.specs.declared.frame.FrameFault.{FrameFault}
use Rattle.ls_frame.specs.declared.frame.FrameFault.TheVariants.{ZeroSize, TooManySamples, WrongCount, ZeroMaxval, SampleTooLarge}

-- A picture. Its samples are ordered from the top row down, from left to right in a row, and by component in a pixel.
pub record Picture : Type 0 where
  pub kind : Kind
  pub width : ℕ
  pub height : ℕ
  pub maxval : ℕ
  pub samples : List ℕ

-- the picture of this form with these samples; below, the form of a picture
abbrev pub picture_of : Form → List ℕ → Picture
picture_of form samples = record { kind = form.kind; width = form.width; height = form.height; maxval = form.maxval; samples = samples }

abbrev pub form_of : Picture → Form
form_of f = record { kind = f.kind; width = f.width; height = f.height; maxval = f.maxval }

-- the number of samples per pixel
abbrev pub components : Kind → ℕ
components Gray = 1
components Color = 3

-- the number of samples of a picture of this kind and size
abbrev pub sample_count : Kind → ℕ → ℕ → ℕ
sample_count kind width height = width * height * components kind

-- the maximum number of samples of a frame; below, the greatest side, maxval and sample
abbrev pub most_samples : ℕ
most_samples = 2 ^ 28

abbrev pub greatest : ℕ
greatest = 65535

-- A picture that is a frame unless a sample is over maxval.
pub record IsFormed (f : Picture) : Type 0 where
  pub some_width : 0 < f.width
  pub width : f.width ≤ greatest
  pub some_height : 0 < f.height
  pub height : f.height ≤ greatest
  pub some_maxval : 0 < f.maxval
  pub maxval : f.maxval ≤ greatest
  pub few : sample_count f.kind f.width f.height ≤ most_samples
  pub count : length f.samples ≡ sample_count f.kind f.width f.height

-- A frame: a picture with at least one sample and not too many, as many as its size needs, each at most maxval.
pub record IsFrame (f : Picture) : Type 0 where
  pub formed : IsFormed f
  pub each : AllByRecursion (λ sample. sample ≤ f.maxval) f.samples

-- why a picture isn't a frame: the first of these faults that it has
abbrev pub frame_fault : Picture → Option FrameFault
frame_fault f =
    if f.width == 0 || f.height == 0 then Some ZeroSize
    else (if nat_lt most_samples (sample_count f.kind f.width f.height) then Some TooManySamples
    else (if not (length f.samples == sample_count f.kind f.width f.height) then Some WrongCount
    else (if f.maxval == 0 then Some ZeroMaxval
    else option_map SampleTooLarge (position (λ sample. nat_lt f.maxval sample) f.samples))))

-- pictures are equal if all five of their parts are
abbrev pub same_kind : Kind → Kind → Bool
same_kind Gray Gray = true
same_kind Gray Color = false
same_kind Color Gray = false
same_kind Color Color = true

abbrev pub same_picture : Picture → Picture → Bool
same_picture f g =
    same_kind f.kind g.kind && f.width == g.width && f.height == g.height && f.maxval == g.maxval && pointwise ◌==◌ f.samples g.samples
