-- A block: the contexts, predictions and samples that are computed ahead of the coding of a row.
use Rattle.std.specs.Prelude.{◌≡◌, ◌==◌, ℕ, ◌+◌, ◌-◌, ◌<◌, ◌≤◌, List, slice_index}
use Rattle.ls_frame.specs.Parameters.{Parameters}
use Rattle.ls_coding.specs.declared.mirrored.Mirrored.{Mirrored}
use Rattle.ls_coding.specs.Contexts.{is_run}
use Rattle.ls_coding.specs.View.Mirrors.{IsMirrored}
use Rattle.ls_stream.specs.declared.encode.row.Block.{Block}
use Rattle.ls_stream.specs.View.LineBuffers.{neighbours_in}

-- the entry of a block at a place
abbrev pub mirrored_at : Block → ℕ → Mirrored
mirrored_at block place = record {
  context = slice_index block.contexts place;
  prediction = slice_index block.predictions place;
  sample = slice_index block.samples place;
}

-- the block is that of the samples from a column up to another, by the row's two lines; a context is 0 exactly if its sample is coded in
-- run mode
pub record AreMirrored (p : Parameters) (start end : ℕ) (above line : List ℕ) (block : Block) : Type 0 where
  pub mirrored : (j : ℕ) → start ≤ j → j < end → IsMirrored p (neighbours_in above line j) (slice_index line (j + 1)) (mirrored_at block (j - start))
  pub modes : (j : ℕ) → start ≤ j → j < end → (slice_index block.contexts (j - start) == 0) ≡ is_run (neighbours_in above line j)
