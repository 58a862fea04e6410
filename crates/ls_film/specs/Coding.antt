-- What coding writes for frames: a codestream for each.
use Rattle.std.specs.Prelude.{ℕ, List, map, flat_map}
use Rattle.ls_frame.specs.Picture.{Picture}
use Rattle.ls_frame.specs.Parameters.{Parameters, default_parameters}
use Rattle.ls_stream.specs.Layout.{codestream}

-- the codestreams of frames with their parameters, joined with nothing between them
abbrev pub file : List (Picture × Parameters) → List ℕ
file frames = flat_map (λ one. codestream one.0 one.1) frames

-- frames with the default parameters of their maxval
abbrev pub with_defaults : List Picture → List (Picture × Parameters)
with_defaults frames = map (λ f. (f, default_parameters f.maxval)) frames

-- what `code` writes for a film
abbrev pub default_file : List Picture → List ℕ
default_file frames = file (with_defaults frames)
