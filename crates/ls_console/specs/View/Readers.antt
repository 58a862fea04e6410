-- The reader of a film or a recording, and what is known of the bytes that it has left.
use Rattle.std.specs.Prelude.{ℕ, List, Option}
use Rattle.ls_frame.specs.declared.buffered.Buffered.{Buffered}
use Rattle.ls_frame.specs.declared.device.Counted.{Counted}
use Rattle.ls_frame.specs.View.Chunks.{left_in}
use Rattle.ls_frame.specs.View.Devices.{wrapped}
use Rattle.ls_files.specs.declared.source.Source.{Source}
use Rattle.ls_files.specs.View.Files.{left_in_source}

module _ {O F : Type 0} where
  -- what is known of the bytes that a reader has left
  abbrev pub unread : (F → Option (List ℕ)) → Buffered (Counted (Source O F)) → Option (List ℕ)
  unread remaining reader = left_in (λ (c : Counted (Source O F)). left_in_source remaining (wrapped c)) reader
