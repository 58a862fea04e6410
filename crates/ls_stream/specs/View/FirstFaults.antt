-- The first fault of bytes: of markers, segments and the planes in the scans' data together. How a scan's bits break is defined by the
-- codes by which a reader takes the next span of a plane (`BitFaults`).
use Rattle.std.specs.Prelude.{◌≡◌, ℕ, ◌+◌, ◌≤◌, Bool, List, [], ◌∷◌, ◌++◌, length, take, drop, slice_index, ◌⊎◌, Ok}
use Rattle.ls_frame.specs.Parameters.{Parameters}
use Rattle.ls_bits.specs.declared.data.Stop.{Stop}
use Rattle.ls_bits.specs.declared.data.Stop.TheVariants as stops
use Rattle.ls_bits.specs.declared.source.CodeFault.{CodeFault}
use Rattle.ls_bits.specs.declared.source.CodeFault.TheVariants.{OutOfBits, NotCanonical}
use Rattle.ls_bits.specs.Data.{DataAtFront, stop_at}
use Rattle.ls_bits.specs.Stuffing.{unstuff}
use Rattle.ls_stream.specs.declared.faults.StreamFault.{StreamFault}
use Rattle.ls_stream.specs.declared.faults.StreamFault.TheVariants.{Truncated, BadCode, LeftoverBits}
use Rattle.ls_stream.specs.Segments.{field_of}
use Rattle.ls_stream.specs.Planes.{Plane, IsSamplePlane, plane_bits}
use Rattle.ls_stream.specs.View.BitFaults.{BreaksPlane}
use Rattle.ls_stream.specs.Grammar.{Miscellaneous, last_presets, no_presets, parameters_of, IsCoded}
use Rattle.ls_stream.specs.Faults.{next_scan, end_marker, HasScan, HasNextScan, later_ids, BreaksAfter, BreaksOpening}

-- ---- the data of a scan

-- the bits begin with those of no plane of this width and height
abbrev pub BeginWithNoPlane : Parameters → ℕ → ℕ → List Bool → Type 0
BeginWithNoPlane p width height bits =
    (plane : Plane) → IsSamplePlane p.maxval width height plane → (rest : List Bool) → bits ≡ plane_bits p plane ++ rest → ⊥

-- the bits begin with those of a plane, and 16 or more follow
pub record HaveLeftoverBits (p : Parameters) (width height : ℕ) (bits : List Bool) : Type 0 where
  pub plane : Plane
  pub is_plane : IsSamplePlane p.maxval width height plane
  pub more : List Bool
  pub many : 16 ≤ length more
  pub whole : bits ≡ plane_bits p plane ++ more

-- the bits begin with those of no plane, and after those of the first spans of a plane the next span breaks
pub record BreakInPlane (p : Parameters) (width height : ℕ) (bits : List Bool) (fault : CodeFault) : Type 0 where
  pub no_plane : BeginWithNoPlane p width height bits
  pub breaks : BreaksPlane p width height bits fault

-- The data of a component's scan, and what ends it: the bits go on as those of no plane do; or they run out, at a marker or with the input;
-- or 16 bits or more follow those of a plane.
pub data BreaksData (p : Parameters) (width height component : ℕ) (stuffed : List ℕ) (stop : Stop) (fault : StreamFault) : Type 0 where
  wrong_code : BreakInPlane p width height (unstuff stuffed) NotCanonical → fault ≡ BadCode component → BreaksData p width height component stuffed stop fault
  marker_early : BreakInPlane p width height (unstuff stuffed) OutOfBits → stop ≡ stops.Marker → fault ≡ BadCode component → BreaksData p width height component stuffed stop fault
  input_ends : BreakInPlane p width height (unstuff stuffed) OutOfBits → stop ≡ stops.End → fault ≡ Truncated → BreaksData p width height component stuffed stop fault
  leftover : HaveLeftoverBits p width height (unstuff stuffed) → fault ≡ LeftoverBits component → BreaksData p width height component stuffed stop fault

-- the data of a plane of this width and height
pub record IsPlaneData (p : Parameters) (width height : ℕ) (stuffed : List ℕ) : Type 0 where
  pub plane : Plane
  pub is_plane : IsSamplePlane p.maxval width height plane
  pub coded : IsCoded p plane stuffed

-- After the header of a component's scan: its data breaks; or the data is a plane's, and the markers or segments after it break; or it is,
-- and after the header of the next component's scan the same holds of that scan.
abbrev pub BreaksPlanes : Parameters → ℕ → ℕ → ℕ → List ℕ → List ℕ → StreamFault → Type 0
BreaksPlanes p width height component [] bytes fault =
    (len : ℕ) × DataAtFront bytes len × (BreaksData p width height component (take len bytes) (stop_at (drop len bytes)) fault
    ⊎ (IsPlaneData p width height (take len bytes) × BreaksAfter end_marker (drop len bytes) fault))
BreaksPlanes p width height component (id ∷ later) bytes fault =
    (len : ℕ) × DataAtFront bytes len × (BreaksData p width height component (take len bytes) (stop_at (drop len bytes)) fault
    ⊎ (IsPlaneData p width height (take len bytes) × (BreaksAfter (next_scan id) (drop len bytes) fault
    ⊎ ((more : List ℕ) × HasNextScan id (drop len bytes) more × BreaksPlanes p width height (component + 1) later more fault))))

-- ---- a codestream with its planes

-- The first fault of the bytes from the left: before the data of the first scan, or from there on, given the parameters and the size that
-- come before it.
pub data FirstFault (bytes : List ℕ) (fault : StreamFault) : Type 0 where
  before_data : BreaksOpening bytes fault → FirstFault bytes fault
  from_data : (contents rest : List ℕ) (before between : List Miscellaneous) (p : Parameters) → HasScan bytes contents before between rest
      → parameters_of (slice_index contents 0) (last_presets no_presets (before ++ between)) ≡ Ok p
      → BreaksPlanes p (field_of contents 3) (field_of contents 1) 0 (later_ids contents) rest fault → FirstFault bytes fault
