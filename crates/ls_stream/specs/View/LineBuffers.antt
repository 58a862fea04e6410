-- Two lines of a plane as a coder keeps them: padded by one place on the left and one on the right.
use Rattle.std.specs.Prelude.{◌≡◌, ◌≢◌, ℕ, zero, suc, ◌+◌, ◌-◌, ◌*◌, ◌<◌, ◌≤◌, List, [], ◌∷◌, ◌++◌, replicate, length, take, drop, slice_index}
use Rattle.ls_coding.specs.declared.neighbours.Neighbours.{Neighbours}
use Rattle.ls_stream.specs.Planes.{Plane, at, around, left}

-- the samples of a row
abbrev pub row_of : Plane → ℕ → List ℕ
row_of plane i = take plane.width (drop (i * plane.width) plane.samples)

-- Line 0 is the one above the first row, and line i + 1 is row i: Ra of its first column, its samples, and its last sample again.
abbrev pub line_of : Plane → ℕ → List ℕ
line_of plane zero = replicate (plane.width + 2) 0
line_of plane (suc i) = left plane i 0 ∷ (row_of plane i ++ at plane i (plane.width - 1) ∷ [])

-- the neighbours of the sample in a column, by the line above and its own line
abbrev pub neighbours_in : List ℕ → List ℕ → ℕ → Neighbours
neighbours_in above line j = record {
  a = slice_index line j;
  b = slice_index above (j + 1);
  c = slice_index above j;
  d = slice_index above (j + 2);
}

-- these two lines give each sample of a row and its neighbours
pub record AreLines (plane : Plane) (i : ℕ) (above line : List ℕ) : Type 0 where
  pub neighbours : (j : ℕ) → j < plane.width → neighbours_in above line j ≡ around plane i j
  pub samples : (j : ℕ) → j < plane.width → slice_index line (j + 1) ≡ at plane i j

-- a buffer holds a line
abbrev pub HoldsLine : Plane → ℕ → List ℕ → Type 0
HoldsLine plane i buffer = (k : ℕ) → k < plane.width + 2 → slice_index buffer k ≡ slice_index (line_of plane i) k

-- two padded lines of this width, all of samples
pub record ArePadded (maxval width : ℕ) (above line : List ℕ) : Type 0 where
  pub above_length : length above ≡ width + 2
  pub line_length : length line ≡ width + 2
  pub above_small : (k : ℕ) → slice_index above k ≤ maxval
  pub line_small : (k : ℕ) → slice_index line k ≤ maxval

-- the samples from column j up to `end` equal the one to the left of j, and the sample in column `end`, if there is one, doesn't
pub record IsRunEnd (line : List ℕ) (width j end : ℕ) : Type 0 where
  pub low : j ≤ end
  pub high : end ≤ width
  pub equal : (k : ℕ) → j ≤ k → k < end → slice_index line (k + 1) ≡ slice_index line j
  pub other : end < width → slice_index line (end + 1) ≢ slice_index line j
