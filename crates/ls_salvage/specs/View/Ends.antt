-- When reading gives up, and whose device failed.
use Rattle.std.specs.Prelude.{if◌then◌else◌, ℕ, ◌^◌, Bool, true, false}
use Rattle.ls_stream.specs.declared.faults.StreamFault.{StreamFault}
use Rattle.ls_stream.specs.declared.faults.StreamFault.TheVariants as stream
use Rattle.ls_film.specs.declared.codestreams.Unread.{Unread}
use Rattle.ls_film.specs.declared.codestreams.Unread.TheVariants as unread
use Rattle.ls_salvage.specs.declared.faults.ReadFault.{ReadFault}
use Rattle.ls_salvage.specs.declared.faults.ReadFault.TheVariants as read
use Rattle.ls_salvage.specs.declared.faults.SalvageFault.{SalvageFault}
use Rattle.ls_salvage.specs.declared.faults.SalvageFault.TheVariants.{Io, Output, NoMemory, NoEnd, TooMuch}

-- after this many bytes the search for a start gives up; after parts of this many bytes a salvage does
abbrev pub most_place : ℕ
most_place = 2 ^ 62

-- whether an allocation failed, which is no fault of the bytes
abbrev pub is_refusal : StreamFault → Bool
is_refusal stream.Truncated = false
is_refusal stream.NotSoi = false
is_refusal stream.BadSegment = false
is_refusal (stream.Unsupported what) = false
is_refusal (stream.BadPresets fault) = false
is_refusal stream.TooLarge = false
is_refusal (stream.BadCode component) = false
is_refusal (stream.LeftoverBits component) = false
is_refusal stream.NoMemory = true

-- the fault of reading for the reason why a codestream can't be taken: it is too large, or a read or an allocation failed
abbrev pub read_fault : Unread → ReadFault
read_fault unread.Io = read.Io
read_fault (unread.Stream fault) = if is_refusal fault then read.NoMemory else read.NoEnd

-- the fault of a salvage for a fault of reading, after this many frames
abbrev pub salvage_fault : ℕ → ReadFault → SalvageFault
salvage_fault frames read.Io = Io frames
salvage_fault frames read.NoMemory = NoMemory
salvage_fault frames read.NoEnd = NoEnd
salvage_fault frames read.TooMuch = TooMuch

-- whether a read failed
abbrev pub is_io : ReadFault → Bool
is_io read.Io = true
is_io read.NoMemory = false
is_io read.NoEnd = false
is_io read.TooMuch = false

-- whether a salvage stopped because its reader's device failed; because its writer's did
abbrev pub blames_reader : SalvageFault → Bool
blames_reader (Io frames) = true
blames_reader (Output bytes) = false
blames_reader NoMemory = false
blames_reader NoEnd = false
blames_reader TooMuch = false

abbrev pub blames_writer : SalvageFault → Bool
blames_writer (Io frames) = false
blames_writer (Output bytes) = true
blames_writer NoMemory = false
blames_writer NoEnd = false
blames_writer TooMuch = false
