-- A table of the regions of all gradients.
use Rattle.std.specs.Prelude.{◌≡◌, ℕ, ◌+◌, ◌*◌, ◌<◌, ℤ, pos, ◌-ℤ◌, List, length, slice_index_or}
use Rattle.ls_frame.specs.Parameters.{Parameters, IsLegal}
use Rattle.ls_coding.specs.Contexts.{region}

-- the regions of the differences of two samples, from -MAXVAL to MAXVAL
pub record AreRegions (p : Parameters) (table : List ℤ) : Type 0 where
  pub legal : IsLegal p
  pub whole : length table ≡ 2 * p.maxval + 1
  pub regions : (place : ℕ) → place < 2 * p.maxval + 1 → slice_index_or table place (pos 0) ≡ region p (pos place -ℤ pos p.maxval)
