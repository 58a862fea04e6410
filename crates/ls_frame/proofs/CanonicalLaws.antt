-- The canonical text of a frame is an image of it.
use Rattle.std.proofs.Common.{◌≡◌, ℕ, ◌*◌, ◌/◌, ◌%◌, ◌^◌, ◌<◌, ◌≤◌, Bool, true, false, List, [], ◌∷◌, ◌++◌, length, decimal, IsTrue, refl, sym, ap, arith, rules, append_assoc}
use Rattle.std.proofs.lemmas.List.{length-append}
use Rattle.std.proofs.lemmas.Fmt.{decimal_nonempty, length-decimal-le, digits_decimal, digits_value-decimal}
use Rattle.std.proofs.lemmas.Str.Parse.{IsNumeralModel, numerals_by_fold}
use Rattle.ls_frame.specs.declared.frame.Kind.{Kind}
use Rattle.ls_frame.specs.declared.frame.Kind.TheVariants.{Gray, Color}
use Rattle.ls_frame.specs.Picture.{Picture, IsFrame, greatest}
use Rattle.ls_frame.specs.Netpbm.{is_white, decimal_value, IsNumber, Field, IsField, field_number, magic, Heading, heading_bytes, IsHeading, most_heading, InRange, is_wide, IsSample, IsRaster, IsImageOf}
use Rattle.ls_frame.specs.Canonical.{canonical_heading, sample_bytes, raster_bytes, canonical}
use Rattle.ls_frame.proofs.NumberLaws.{AreDigits, followed}

-- ---- numbers

numerals : IsNumeralModel AreDigits (followed 0)
numerals = numerals_by_fold _ (search rules) followed (search rules)

decimal-number : (n : ℕ) → n ≤ greatest → IsNumber (decimal n)
decimal-number n small = record {
  some = decimal_nonempty n (omega arith);
  each = digits_decimal numerals n (omega arith);
}

number-decimal : (n : ℕ) → n ≤ greatest → decimal_value (decimal n) ≡ n
number-decimal n small = digits_value-decimal numerals n (omega arith)

length-number : (n : ℕ) → n ≤ greatest → length (decimal n) ≤ 5
length-number n small = length-decimal-le 5 n (omega arith) (omega arith) (omega arith)

-- ---- the header

-- a white space character and a number
abbrev field_of : ℕ → ℕ → Field
field_of white n = record { gap = record { first = white; blanks = [] }; digits = decimal n }

field_of-lawful : (white n : ℕ) → IsTrue (is_white white) → n ≤ greatest → IsField (field_of white n)
field_of-lawful white n is small = record { gap = record { first = is; blanks = tt }; digits = decimal-number n small }

-- the field of a number in range is in range
field_of-range : (white n : ℕ) → 0 < n → n ≤ greatest → InRange (field_number (field_of white n))
field_of-range white n some small = rw (number-decimal n small) (record { some = some; most = small })

abbrev heading_of : Picture → Heading
heading_of f = record { kind = f.kind; width = field_of 10 f.width; height = field_of 32 f.height; maxval = field_of 10 f.maxval; last = 10 }

heading_of-bytes : (f : Picture) → canonical_heading f ≡ heading_bytes (heading_of f)
unfolding canonical_heading
heading_of-bytes f = simp append_assoc

length-magic : (kind : Kind) → length (magic kind) ≡ 2
length-magic Gray = refl
length-magic Color = refl

-- 21 bytes at most
heading_of-short : (f : Picture) → IsFrame f → length (heading_bytes (heading_of f)) ≤ most_heading
heading_of-short f lawful =
    let magic_size = length-magic f.kind in
    let width = length-number f.width lawful.formed.width in
    let height = length-number f.height lawful.formed.height in
    let maxval = length-number f.maxval lawful.formed.maxval in
    simp length-append (omega arith)

heading_of-lawful : (f : Picture) → IsFrame f → IsHeading (heading_of f)
heading_of-lawful f lawful = record {
  width = field_of-lawful 10 f.width refl lawful.formed.width;
  height = field_of-lawful 32 f.height refl lawful.formed.height;
  maxval = field_of-lawful 10 f.maxval refl lawful.formed.maxval;
  last = refl;
  width_range = field_of-range 10 f.width lawful.formed.some_width lawful.formed.width;
  height_range = field_of-range 32 f.height lawful.formed.some_height lawful.formed.height;
  few = rw (number-decimal f.width lawful.formed.width, number-decimal f.height lawful.formed.height) lawful.formed.few;
  maxval_range = field_of-range 10 f.maxval lawful.formed.some_maxval lawful.formed.maxval;
  short = heading_of-short f lawful;
}

-- ---- the raster

sample_bytes-say : (wide : Bool) (sample : ℕ) → IsSample wide (sample_bytes wide sample) sample
sample_bytes-say false sample = refl
sample_bytes-say true sample = (sample / 256, sample % 256, refl, omega arith)

raster_bytes-say : (wide : Bool) (samples : List ℕ) → IsRaster wide (raster_bytes wide samples) samples
unfolding raster_bytes
raster_bytes-say wide [] = refl
raster_bytes-say wide (s ∷ samples) = (sample_bytes wide s, raster_bytes wide samples, refl, sample_bytes-say wide s, raster_bytes-say wide samples)

-- ---- the image

pub canonical-spells : (f : Picture) → IsFrame f → IsImageOf (canonical f) f
unfolding canonical
canonical-spells f lawful = record {
  heading = heading_of f;
  raster = raster_bytes (is_wide f.maxval) f.samples;
  whole = ap (λ h. h ++ raster_bytes (is_wide f.maxval) f.samples) (heading_of-bytes f);
  lawful = heading_of-lawful f lawful;
  kind = refl;
  width = sym (number-decimal f.width lawful.formed.width);
  height = sym (number-decimal f.height lawful.formed.height);
  maxval = sym (number-decimal f.maxval lawful.formed.maxval);
  samples = raster_bytes-say (is_wide f.maxval) f.samples;
  frame = lawful;
}

-- ---- its length

sample_bytes-few : (wide : Bool) (sample : ℕ) → length (sample_bytes wide sample) ≤ 2
sample_bytes-few false sample = omega arith
sample_bytes-few true sample = omega arith

raster_bytes-few : (wide : Bool) (samples : List ℕ) → length (raster_bytes wide samples) ≤ 2 * length samples
unfolding raster_bytes
raster_bytes-few wide [] = omega arith
raster_bytes-few wide (s ∷ samples) =
    omega (arith, length-append (sample_bytes wide s) (raster_bytes wide samples), sample_bytes-few wide s, raster_bytes-few wide samples)

pub canonical-short : (f : Picture) → IsFrame f → length (canonical f) < 2 ^ 32
unfolding canonical
canonical-short f lawful =
    let heading : List ℕ = heading_bytes (heading_of f) in
    let raster : List ℕ = raster_bytes (is_wide f.maxval) f.samples in
    let whole : canonical_heading f ++ raster ≡ heading ++ raster = ap (λ h. h ++ raster) (heading_of-bytes f) in
    omega (
      arith,
      ap length whole,
      length-append heading raster,
      (heading_of-lawful f lawful).short,
      raster_bytes-few (is_wide f.maxval) f.samples,
      lawful.formed.count,
      lawful.formed.few,
    )
