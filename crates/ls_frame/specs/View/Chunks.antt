-- A reader that reads from an inner reader in chunks.
use Rattle.std.specs.Prelude.{ℕ, List, Option, slice_range}
use Rattle.std.specs.Io.KnownBytes.{prepend_known}
use Rattle.ls_frame.specs.declared.buffered.Buffered.{Buffered}

module _ {X : Type 0} where
  -- the inner reader
  abbrev pub inner_reader : Buffered X → X
  inner_reader b = b.inner

  -- the bytes of the chunk that aren't returned yet
  abbrev pub in_chunk : Buffered X → List ℕ
  in_chunk b = slice_range b.chunk.items b.start b.end

  -- the bytes left, if known: those in the chunk, followed by those left in the inner reader
  abbrev pub left_in : (X → Option (List ℕ)) → Buffered X → Option (List ℕ)
  left_in remaining b = prepend_known (in_chunk b) (remaining (inner_reader b))
