-- The planes of a picture: one for each component.
use Rattle.std.specs.Prelude.{ℕ, ◌+◌, ◌*◌, ◌/◌, ◌%◌, List, map, length, slice_index}
use Rattle.std.specs.List.{range_with_len}
use Rattle.ls_frame.specs.Picture.{Picture, components}
use Rattle.ls_stream.specs.declared.arranged.Arrangement.{Arrangement}
use Rattle.ls_stream.specs.declared.arranged.Arrangement.TheVariants.{Pixels, Planes}
use Rattle.ls_stream.specs.Planes.{Plane}

-- the samples of one of `count` components: those at the places that leave the component's number when divided by `count`
unfoldable pub component_of : ℕ → ℕ → List ℕ → List ℕ
component_of count component samples = map (λ k. slice_index samples (k * count + component)) (range_with_len 0 (length samples / count))

abbrev pub component_plane : ℕ → ℕ → ℕ → List ℕ → Plane
component_plane width count component samples = record { width = width; samples = component_of count component samples }

-- the plane of a component of a picture
abbrev pub plane_of : Picture → ℕ → Plane
plane_of f component = component_plane f.width (components f.kind) component f.samples

-- The samples of a picture of `count` components in the order of pixels, given plane by plane: the sample at a place is of the pixel that
-- dividing the place by `count` gives, and of the component that is left.
unfoldable pub in_pixels : ℕ → List ℕ → List ℕ
in_pixels count planes = map (λ k. slice_index planes (k % count * (length planes / count) + k / count)) (range_with_len 0 (length planes))

-- the samples of a picture in the order of pixels, given as they are arranged in memory
abbrev pub arranged : Arrangement → ℕ → List ℕ → List ℕ
arranged Pixels count samples = samples
arranged Planes count samples = in_pixels count samples
