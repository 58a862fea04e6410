use Rattle.std.proofs.Common.{◌≡◌, ◌+◌, ◌*◌, ◌≤◌, ◌++◌, length, take, decimal, codes, string_bytes}
use Rattle.std.specs.List.{flat_map}
use Rattle.ls_film.specs.Listing.{kind_text, column}
use Rattle.ls_archive.proofs.index.line.Given as goal

-- the number, the offset, the size, the kind and the columns so far
abbrev pub invariant-loop-column : goal.invariant-loop-column
invariant-loop-column l = record {
  text : string_bytes l.text ≡ decimal l.fn.number ++ column l.fn.offset ++ column (length l.bytes) ++ codes " " ++ kind_text l.indexed.kind ++ flat_map column (take l.column-index l.column-items);
  short : length (string_bytes l.text) ≤ 140 + 41 * l.column-index;
}
