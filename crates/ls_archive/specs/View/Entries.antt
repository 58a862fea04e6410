-- Which bytes have an entry, and what a reader gave in entries.
use Rattle.std.specs.Prelude.{◌≡◌, ◌⊎◌, ℕ, ◌+◌, ◌≤◌, List, [], ◌++◌, length, take, Option, Ok, Err}
use Rattle.std.specs.List.{AllByRecursion}
use Rattle.ls_frame.specs.Picture.{Picture}
use Rattle.ls_frame.specs.View.Known.{Tells, Gave, known}
use Rattle.ls_stream.specs.View.Extents.{BeginsEndless}
use Rattle.ls_stream.specs.declared.faults.StreamFault.{StreamFault}
use Rattle.ls_stream.specs.declared.faults.StreamFault.TheVariants as stream
use Rattle.ls_stream.specs.Grammar.{most_bytes}
use Rattle.ls_stream.specs.View.Outlines.{Outline, outline_of}
use Rattle.ls_film.specs.View.Codestreams.{BeginsWithNone}
use Rattle.ls_archive.specs.declared.entry.Headers.{Headers}
use Rattle.ls_archive.specs.Index.{Entry, joined}

-- ---- entries

-- The entry has what the outline's headers and parameters say.
pub record Says (outline : Outline) (entry : Entry) : Type 0 where
  pub kind : outline.header.kind ≡ entry.kind
  pub width : outline.header.width ≡ entry.width
  pub height : outline.header.height ≡ entry.height
  pub precision : outline.header.precision ≡ entry.precision
  pub parameters : outline.parameters ≡ entry.parameters

-- The entry of a codestream that is complete by its markers and headers: its last bytes are EOI.
pub record IsEntry (entry : Entry) : Type 0 where
  pub short : length entry.bytes ≤ most_bytes
  pub outline : Outline
  pub complete : outline_of entry.bytes ≡ Ok (outline, [])
  pub says : Says outline entry

-- The bytes are codestreams with these entries, joined with nothing between them.
pub record AreEntriesOf (bytes : List ℕ) (entries : List Entry) : Type 0 where
  pub joined_are : bytes ≡ joined entries
  pub each : AllByRecursion IsEntry entries

-- The entry says the form of this frame.
pub record IsOfFrame (entry : Entry) (f : Picture) : Type 0 where
  pub kind : entry.kind ≡ f.kind
  pub width : entry.width ≡ f.width
  pub height : entry.height ≡ f.height
  pub maxval : entry.parameters.maxval ≡ f.maxval

-- ---- what a reader gave

-- The reader gave codestreams with these entries.
abbrev pub GaveEntries : Option (List ℕ) → Option (List ℕ) → List Entry → Type 0
GaveEntries old new entries = Gave old new (λ bytes. AreEntriesOf bytes entries)

-- The reader gave a codestream with this entry.
abbrev pub GaveEntry : Option (List ℕ) → Option (List ℕ) → Entry → Type 0
GaveEntry old new entry = Gave old new (λ bytes. (bytes ≡ entry.bytes) × IsEntry entry)

-- The reader gave codestreams with these entries, and is at its end.
abbrev pub GaveIndexed : Option (List ℕ) → Option (List ℕ) → List Entry → Type 0
GaveIndexed old new entries = Tells old → Tells new × (known new ≡ []) × AreEntriesOf (known old) entries

-- The input begins with codestreams with these entries, and P holds of what follows them.
abbrev pub BeginsWithEntries : Option (List ℕ) → List Entry → (List ℕ → Type 0) → Type 0
BeginsWithEntries old entries P = Tells old →
    (front : List ℕ) × (rest : List ℕ) × (known old ≡ front ++ rest) × AreEntriesOf front entries × P rest

-- ---- the next codestream

-- The first fault of the bytes' markers and headers; or `TooLarge`, if as many of the bytes as a codestream may have show neither an end nor a fault.
abbrev pub IsFaultBy : List ℕ → StreamFault → Type 0
IsFaultBy bytes fault = (outline_of bytes ≡ Err fault) ⊎ ((fault ≡ stream.TooLarge) × BeginsEndless bytes)

-- The bytes don't begin with a codestream of a frame, and have this fault.
abbrev pub BreaksBy : StreamFault → List ℕ → Type 0
BreaksBy fault bytes = BeginsWithNone bytes × IsFaultBy bytes fault

-- ---- headers

-- the entry of the first bytes by these headers, which say how many bytes it has
abbrev pub entry_of : List ℕ → Headers → Entry
entry_of bytes headers = record {
  bytes = take headers.used bytes;
  kind = headers.kind;
  width = headers.width;
  height = headers.height;
  precision = headers.precision;
  parameters = headers.presets;
}

-- The headers are those of the codestream at the front of the bytes, which has the size that they say.
pub record HasHeaders (bytes : List ℕ) (headers : Headers) : Type 0 where
  pub outline : Outline
  pub left : List ℕ
  pub read : outline_of bytes ≡ Ok (outline, left)
  pub size : headers.used + length left ≡ length bytes
  pub few : headers.used ≤ most_bytes
  pub says : Says outline (entry_of bytes headers)

-- ---- laws

-- Only one list of entries has these bytes as its codestreams.
abbrev pub OneIndex : Type 0
OneIndex = (bytes : List ℕ) (entries others : List Entry) → AreEntriesOf bytes entries → AreEntriesOf bytes others → entries ≡ others
