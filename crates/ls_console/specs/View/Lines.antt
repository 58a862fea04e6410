-- A writer with a buffer for lines.
use Rattle.std.specs.Prelude.{ℕ, List, Option}
use Rattle.std.specs.Io.KnownBytes.{append_known}
use Rattle.ls_console.specs.declared.lines.Lines.{Lines}

module _ {W : Type 0} where
  -- what the lines are written to
  abbrev pub lines_writer : Lines W → W
  lines_writer lines = lines.writer

  -- the bytes that the buffer holds
  abbrev pub held : Lines W → List ℕ
  held lines = lines.buffer.items

  -- the known bytes: the writer's, and then those that the buffer holds
  abbrev pub lines_bytes : (W → Option (List ℕ)) → Lines W → Option (List ℕ)
  lines_bytes contents lines = append_known (contents (lines_writer lines)) (held lines)
