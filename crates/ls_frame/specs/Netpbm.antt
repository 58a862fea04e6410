-- The grammar of a Netpbm image, after the pgm and ppm pages, for the binary forms:
-- magic, gap, width, gap, height, gap, maxval, one white space character, raster.
-- Narrower than the pages: a comment may only stand in a gap, after white space, and touches neither the magic nor a
-- number. The recorder's own limits are those on the sides, on the number of samples and on the header's length.
use Rattle.std.specs.Prelude.{◌≡◌, ℕ, ◌+◌, ◌-◌, ◌*◌, ◌<◌, ◌≤◌, ◌&&◌, ◌||◌, ◌==◌, not, Bool, true, false, nat_le, IsTrue, List, [], ◌∷◌, ◌++◌, length, fold, flat_map}
use Rattle.std.specs.List.{AllByRecursion}
use Rattle.ls_frame.specs.declared.frame.Kind.{Kind}
use Rattle.ls_frame.specs.declared.frame.Kind.TheVariants.{Gray, Color}
use Rattle.ls_frame.specs.Picture.{Picture, IsFrame, sample_count, most_samples, greatest}

-- ---- characters

-- white space: blank, TAB, CR, LF
abbrev pub is_white : ℕ → Bool
is_white c = c == 32 || c == 9 || c == 13 || c == 10

-- CR and LF
abbrev pub is_line_end : ℕ → Bool
is_line_end c = c == 13 || c == 10

abbrev pub is_digit : ℕ → Bool
is_digit c = nat_le 48 c && nat_le c 57

-- `#`
abbrev pub is_hash : ℕ → Bool
is_hash c = c == 35

-- ---- gaps

-- A part of a gap: a white space character, or a comment, which is `#`, its text and the line end that closes it.
pub data Blank : Type 0 where
  white : ℕ → Blank
  comment : List ℕ → ℕ → Blank

abbrev pub IsBlank : Blank → Type 0
IsBlank (white c) = IsTrue (is_white c)
IsBlank (comment text end) = AllByRecursion (λ c. IsTrue (not (is_line_end c))) text × IsTrue (is_line_end end)

abbrev pub blank_bytes : Blank → List ℕ
blank_bytes (white c) = c ∷ []
blank_bytes (comment text end) = 35 ∷ (text ++ end ∷ [])

-- the bytes of several parts in sequence
abbrev pub blanks_bytes : List Blank → List ℕ
blanks_bytes blanks = flat_map blank_bytes blanks

-- A gap begins with a white space character, so that each `#` in it stands after one.
pub record Gap : Type 0 where
  pub first : ℕ
  pub blanks : List Blank

pub record IsGap (gap : Gap) : Type 0 where
  pub first : IsTrue (is_white gap.first)
  pub blanks : AllByRecursion IsBlank gap.blanks

abbrev pub gap_bytes : Gap → List ℕ
gap_bytes gap = gap.first ∷ blanks_bytes gap.blanks

-- ---- numbers

-- a number is one or more digits; leading zeros are allowed
pub record IsNumber (digits : List ℕ) : Type 0 where
  pub some : 0 < length digits
  pub each : AllByRecursion (λ c. IsTrue (is_digit c)) digits

-- the value of decimal digits
abbrev pub decimal_value : List ℕ → ℕ
decimal_value digits = fold (λ n digit. 10 * n + (digit - 48)) 0 digits

-- ---- the header

-- a gap and the number after it
pub record Field : Type 0 where
  pub gap : Gap
  pub digits : List ℕ

pub record IsField (field : Field) : Type 0 where
  pub gap : IsGap field.gap
  pub digits : IsNumber field.digits

abbrev pub field_bytes : Field → List ℕ
field_bytes field = gap_bytes field.gap ++ field.digits

abbrev pub field_number : Field → ℕ
field_number field = decimal_value field.digits

-- `P5` for gray, `P6` for colour
abbrev pub magic : Kind → List ℕ
magic Gray = 80 ∷ 53 ∷ []
magic Color = 80 ∷ 54 ∷ []

pub record Heading : Type 0 where
  pub kind : Kind
  pub width : Field
  pub height : Field
  pub maxval : Field
  pub last : ℕ

abbrev pub heading_bytes : Heading → List ℕ
heading_bytes h = magic h.kind ++ field_bytes h.width ++ field_bytes h.height ++ field_bytes h.maxval ++ h.last ∷ []

-- the maximum length of a header in bytes, from the magic through the white space character after maxval
abbrev pub most_heading : ℕ
most_heading = 65536

-- 1 to 65535
pub record InRange (n : ℕ) : Type 0 where
  pub some : 0 < n
  pub most : n ≤ greatest

pub record IsHeading (h : Heading) : Type 0 where
  pub width : IsField h.width
  pub height : IsField h.height
  pub maxval : IsField h.maxval
  pub last : IsTrue (is_white h.last)
  pub width_range : InRange (field_number h.width)
  pub height_range : InRange (field_number h.height)
  pub few : sample_count h.kind (field_number h.width) (field_number h.height) ≤ most_samples
  pub maxval_range : InRange (field_number h.maxval)
  pub short : length (heading_bytes h) ≤ most_heading

-- The bytes are a complete, legal header, with nothing after it.
abbrev pub IsWholeHeading : List ℕ → Type 0
IsWholeHeading bytes = (heading : Heading) × IsHeading heading × (bytes ≡ heading_bytes heading)

-- The bytes begin with a complete, legal header.
abbrev pub BeginsWithHeading : List ℕ → Type 0
BeginsWithHeading bytes = (front : List ℕ) × (rest : List ℕ) × (bytes ≡ front ++ rest) × IsWholeHeading front

-- ---- the raster

-- samples have two bytes each if maxval is 256 or more, else one
abbrev pub is_wide : ℕ → Bool
is_wide maxval = nat_le 256 maxval

-- the bytes encode the sample: one byte, or two with the most significant first
abbrev pub IsSample : Bool → List ℕ → ℕ → Type 0
IsSample false bytes sample = bytes ≡ sample ∷ []
IsSample true bytes sample = (high : ℕ) × (low : ℕ) × (bytes ≡ high ∷ low ∷ []) × (sample ≡ 256 * high + low)

-- the bytes encode the samples in sequence
abbrev pub IsRaster : Bool → List ℕ → List ℕ → Type 0
IsRaster wide raster [] = raster ≡ []
IsRaster wide raster (sample ∷ samples) =
    (first : List ℕ) × (rest : List ℕ) × (raster ≡ first ++ rest) × IsSample wide first sample × IsRaster wide rest samples

-- ---- the image

-- The bytes are a header and a raster that encode the picture, which is a frame.
pub record IsImageOf (bytes : List ℕ) (f : Picture) : Type 0 where
  pub heading : Heading
  pub raster : List ℕ
  pub whole : bytes ≡ heading_bytes heading ++ raster
  pub lawful : IsHeading heading
  pub kind : f.kind ≡ heading.kind
  pub width : f.width ≡ field_number heading.width
  pub height : f.height ≡ field_number heading.height
  pub maxval : f.maxval ≡ field_number heading.maxval
  pub samples : IsRaster (is_wide f.maxval) raster f.samples
  pub frame : IsFrame f

-- the bytes don't begin with an image
abbrev pub NoImage : List ℕ → Type 0
NoImage bytes = (front rest : List ℕ) (f : Picture) → bytes ≡ front ++ rest → IsImageOf front f → ⊥
