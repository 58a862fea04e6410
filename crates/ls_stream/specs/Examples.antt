-- Small planes and frames, as examples of the definitions.
use Rattle.std.specs.Prelude.{ℕ, List, [], ◌∷◌}
use Rattle.ls_frame.specs.declared.frame.Kind.{Kind}
use Rattle.ls_frame.specs.declared.frame.Kind.TheVariants.{Gray}
use Rattle.ls_frame.specs.Picture.{Picture}
use Rattle.ls_frame.specs.Parameters.{Parameters, default_parameters}
use Rattle.ls_bits.specs.Stuffing.{stuff}
use Rattle.ls_stream.specs.Planes.{Plane, plane_bits}
use Rattle.ls_stream.specs.Segments.{Header}
use Rattle.ls_stream.specs.Grammar.{Miscellaneous, Scan, Codestream}
use Rattle.ls_stream.specs.Layout.{codestream}

-- the bytes of a scan
unfoldable pub scan : Parameters → Plane → List ℕ
scan p plane = stuff (plane_bits p plane)

-- the scan of a plane of this width, with the default parameters of a maxval
unfoldable pub default_scan : ℕ → ℕ → List ℕ → List ℕ
default_scan maxval width samples = scan (default_parameters maxval) (record { width = width; samples = samples })

-- the picture of T.87's Annex H.3, four samples wide
abbrev pub annex_h_picture : List ℕ
annex_h_picture = 0 ∷ 0 ∷ 90 ∷ 74 ∷ 68 ∷ 50 ∷ 43 ∷ 205 ∷ 64 ∷ 145 ∷ 145 ∷ 145 ∷ 100 ∷ 145 ∷ 145 ∷ 145 ∷ []

-- its scan
abbrev pub annex_h_scan : List ℕ
annex_h_scan =
    192 ∷ 0 ∷ 0 ∷ 108 ∷ 128 ∷ 32 ∷ 142 ∷ 1 ∷ 192 ∷ 0 ∷ 0 ∷ 87 ∷ 64 ∷ 0 ∷ 0
    ∷ 110 ∷ 230 ∷ 0 ∷ 0 ∷ 1 ∷ 188 ∷ 24 ∷ 0 ∷ 0 ∷ 5 ∷ 216 ∷ 0 ∷ 0 ∷ 145 ∷ 96 ∷ []

-- ---- small frames

abbrev pub lone : Kind → ℕ → List ℕ → Picture
lone kind maxval samples = record { kind = kind; width = 1; height = 1; maxval = maxval; samples = samples }

-- the codestream of a frame of one pixel with the default parameters
unfoldable pub lone_codestream : Kind → ℕ → List ℕ → List ℕ
lone_codestream kind maxval samples = codestream (lone kind maxval samples) (default_parameters maxval)

-- the bytes before the scan of a lone gray sample of maxval 255, without preset parameters
abbrev pub lone_head : List ℕ
lone_head = 255 ∷ 216 ∷ 255 ∷ 247 ∷ 0 ∷ 11 ∷ 8 ∷ 0 ∷ 1 ∷ 0 ∷ 1 ∷ 1 ∷ 1 ∷ 17 ∷ 0 ∷ []

abbrev pub lone_scan : ℕ → ℕ → List ℕ
lone_scan id byte = 255 ∷ 218 ∷ 0 ∷ 8 ∷ 1 ∷ id ∷ 0 ∷ 0 ∷ 0 ∷ 0 ∷ byte ∷ []

abbrev pub last_marker : List ℕ
last_marker = 255 ∷ 217 ∷ []

-- ---- codestreams as others may write them, of a lone gray sample 0 of maxval 255

abbrev pub lone_zero : Picture
lone_zero = lone Gray 255 (0 ∷ [])

abbrev pub soi : List ℕ
soi = 255 ∷ 216 ∷ []

-- a frame header of 1 by 1 with this identifier and this number of a quantization table
abbrev pub lone_header : ℕ → ℕ → List ℕ
lone_header id table = 255 ∷ 247 ∷ 0 ∷ 11 ∷ 8 ∷ 0 ∷ 1 ∷ 0 ∷ 1 ∷ 1 ∷ id ∷ 17 ∷ table ∷ []

-- a COM segment with the letter A, and an APP8 segment with no contents
abbrev pub comment_a : List ℕ
comment_a = 255 ∷ 254 ∷ 0 ∷ 3 ∷ 65 ∷ []

abbrev pub empty_app8 : List ℕ
empty_app8 = 255 ∷ 232 ∷ 0 ∷ 2 ∷ []

-- preset parameters with this RESET, and 0 for each other
abbrev pub lone_reset : ℕ → List ℕ
lone_reset reset = 255 ∷ 248 ∷ 0 ∷ 13 ∷ 1 ∷ 0 ∷ 0 ∷ 0 ∷ 0 ∷ 0 ∷ 0 ∷ 0 ∷ 0 ∷ 0 ∷ reset ∷ []

-- a codestream of that sample, with these variable parts
abbrev pub lone_grammar : List Miscellaneous → (id table : ℕ) → List Miscellaneous → Scan → ℕ → Codestream
lone_grammar before id table between scan fill = record {
  before = before;
  fill = 0;
  header = record { precision = 8; height = 1; width = 1; components = record { id = id; table = table } ∷ [] };
  between = between;
  scans = scan ∷ [];
  last_fill = fill;
}

abbrev pub lone_data : List ℕ → List Miscellaneous → Scan
lone_data stuffed after = record { fill = 0; stuffed = stuffed; after = after }

-- a frame header of three components with these identifiers
abbrev pub three_header : ℕ → ℕ → ℕ → Header
three_header one two three = record {
  precision = 8;
  height = 1;
  width = 1;
  components = record { id = one; table = 0 } ∷ record { id = two; table = 0 } ∷ record { id = three; table = 0 } ∷ [];
}
