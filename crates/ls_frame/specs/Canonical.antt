-- The text that a frame is written as, after the pgm and ppm pages: magic, LF, width, blank, height, LF, maxval, LF,
-- raster. Numbers are decimal without leading zeros, and there is no comment.
use Rattle.std.specs.Prelude.{ℕ, ◌/◌, ◌%◌, Bool, true, false, List, [], ◌∷◌, ◌++◌, flat_map, codes, decimal}
use Rattle.ls_frame.specs.Picture.{Picture}
use Rattle.ls_frame.specs.Netpbm.{magic, is_wide}

unfoldable pub canonical_heading : Picture → List ℕ
canonical_heading f = magic f.kind ++ codes "\n" ++ decimal f.width ++ codes " " ++ decimal f.height ++ codes "\n" ++ decimal f.maxval ++ codes "\n"

-- the bytes of a sample: one, or two with the most significant first
abbrev pub sample_bytes : Bool → ℕ → List ℕ
sample_bytes false sample = sample ∷ []
sample_bytes true sample = sample / 256 ∷ sample % 256 ∷ []

-- the bytes of samples in sequence
unfoldable pub raster_bytes : Bool → List ℕ → List ℕ
raster_bytes wide samples = flat_map (sample_bytes wide) samples

unfoldable pub canonical : Picture → List ℕ
canonical f = canonical_heading f ++ raster_bytes (is_wide f.maxval) f.samples
