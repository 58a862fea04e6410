-- The samples of a row of one component.
use Rattle.std.proofs.Common.{◌≡◌, ℕ, ◌+◌, ◌*◌, ◌/◌, ◌<◌, ◌≤◌, List, length, get_or, ◌∙◌, ap, arith, mul-div_cancel}
use Rattle.std.proofs.lemmas.Nat.{mul-le, mul-add-lt}
use Rattle.std.proofs.lemmas.List.FromFn.{get_or-map-range_with_len, length-map-range_with_len}
use Rattle.ls_stream.specs.Planes.{at}
use Rattle.ls_stream.specs.Components.{component_of, component_plane}
use Rattle.ls_stream.proofs.LineLemmas.{HasRow}

places : (samples : List ℕ) (width height count : ℕ) → 1 ≤ count → length samples ≡ width * height * count → length samples / count ≡ width * height
places samples width height count some e = let positive : 0 < count = omega arith in ap (λ n. n / count) e ∙ mul-div_cancel (width * height) positive

place_inside : (width height i j : ℕ) → i < height → j < width → i * width + j < width * height
place_inside width height i j h k = omega (arith, mul-add-lt i width j height h k)

pub sample_at : (samples : List ℕ) (width height count component i j : ℕ) → 1 ≤ count → length samples ≡ width * height * count → i < height → j < width
    → at (component_plane width count component samples) i j ≡ get_or samples ((i * width + j) * count + component) 0
unfolding component_of
sample_at samples width height count component i j some e h k =
    get_or-map-range_with_len (λ n. get_or samples (n * count + component) 0) 0 (length samples / count) (i * width + j) (i * width + j) 0 (omega (arith, places samples width height count some e, place_inside width height i j h k)) (omega arith)

pub all_samples : (samples : List ℕ) (width height count component : ℕ) → 1 ≤ count → length samples ≡ width * height * count → length (component_plane width count component samples).samples ≡ width * height
unfolding component_of
all_samples samples width height count component some e =
    length-map-range_with_len (λ n. get_or samples (n * count + component) 0) 0 (length samples / count) ∙ places samples width height count some e

pub has_row : (samples : List ℕ) (width height count component i : ℕ) → 1 ≤ count → length samples ≡ width * height * count → i < height → HasRow (component_plane width count component samples) i
unfolding component_of
has_row samples width height count component i some e h =
    let rows : (i + 1) * width ≤ height * width = mul-le (i + 1) width height width (omega arith) (omega arith) in
    omega (arith, length-map-range_with_len (λ n. get_or samples (n * count + component) 0) 0 (length samples / count), places samples width height count some e)
