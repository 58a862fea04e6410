-- The states of a reader that takes a codestream byte by byte: what is read on from each.
use Rattle.std.specs.Prelude.{◌≡◌, ◌≢◌, ◌⊎◌, ℕ, suc, ◌≤◌, nat_lt, List, [], ◌∷◌, ◌++◌, length, take, drop, Option, None, Some, Result, Ok, Err, MatchOption, MatchResult, ⊤}
use Rattle.ls_frame.specs.View.Known.{Tells, known}
use Rattle.ls_stream.specs.declared.faults.StreamFault.{StreamFault}
use Rattle.ls_stream.specs.declared.faults.StreamFault.TheVariants.{Truncated}
use Rattle.ls_stream.specs.declared.marker.Marker.{Marker}
use Rattle.ls_stream.specs.declared.marker.Marker.TheVariants.{StartOfImage, EndOfImage, StartOfScan, StartOfFrame, PresetParameters, Application, Comment, Other}
use Rattle.ls_stream.specs.declared.next.awaited.Awaited.{Awaited}
use Rattle.ls_stream.specs.declared.next.awaited.Awaited.TheVariants as awaited
use Rattle.ls_stream.specs.declared.next.awaited.Follows.{Follows}
use Rattle.ls_stream.specs.declared.next.awaited.Follows.TheVariants as follows
use Rattle.ls_stream.specs.declared.next.NextFault.{NextFault}
use Rattle.ls_stream.specs.declared.next.NextFault.TheVariants as next_fault
use Rattle.ls_stream.specs.Grammar.{most_bytes}
use Rattle.ls_stream.specs.View.Reading.{◌>>=◌, wanted}
use Rattle.ls_stream.specs.View.Outlines.{after_data}
use Rattle.ls_stream.specs.View.Extents.{Left, after_segment, segments_at, extent_at, IsNext}

-- what is due after a segment: a marker, or the data of a scan
abbrev pub following : Follows → List ℕ → Left
following follows.Marker bytes = segments_at bytes
following follows.Data bytes = segments_at (after_data bytes)

-- reading the bytes from a place on
unfoldable pub read_on : Awaited → List ℕ → Left
read_on awaited.Start bytes = extent_at bytes
read_on awaited.StartCode bytes = extent_at (255 ∷ bytes)
read_on awaited.Marker bytes = segments_at bytes
read_on awaited.Code bytes = segments_at (255 ∷ bytes)
read_on (awaited.Length follows) bytes = after_segment (following follows) bytes
read_on (awaited.LengthLow follows high) bytes = after_segment (following follows) (high ∷ bytes)
read_on (awaited.Contents follows more) bytes = wanted (nat_lt more (length bytes)) Truncated >>= λ whole. following follows (drop (suc more) bytes)
read_on awaited.Data bytes = segments_at (after_data bytes)
read_on awaited.DataCode bytes = segments_at (after_data (255 ∷ bytes))

-- with this byte, reading goes on from another place
pub record GoesOn (place : Awaited) (byte : ℕ) (next : Awaited) : Type 0 where
  pub on : (bytes : List ℕ) → read_on place (byte ∷ bytes) ≡ read_on next bytes

-- with this byte the codestream ends, or it shows a fault
pub record Ends (place : Awaited) (byte : ℕ) : Type 0 where
  pub ends : ((bytes : List ℕ) → read_on place (byte ∷ bytes) ≡ Ok bytes)
      ⊎ ((fault : StreamFault) × (fault ≢ Truncated) × ((bytes : List ℕ) → read_on place (byte ∷ bytes) ≡ Err fault))

-- what is due after a marker's segment; `None` if the marker has no segment, or isn't supported
abbrev pub follows_of : Marker → Option Follows
follows_of StartOfImage = None
follows_of EndOfImage = None
follows_of StartOfScan = Some follows.Data
follows_of StartOfFrame = Some follows.Marker
follows_of PresetParameters = Some follows.Marker
follows_of (Application code) = Some follows.Marker
follows_of Comment = Some follows.Marker
follows_of (Other code) = None

-- the place after a segment
abbrev pub place_of : Follows → Awaited
place_of follows.Marker = awaited.Marker
place_of follows.Data = awaited.Data

-- these bytes were read, they show neither an end nor a fault, and reading goes on from this place
pub record IsPlaceAfter (place : Awaited) (bytes : List ℕ) : Type 0 where
  pub on : (rest : List ℕ) → extent_at (bytes ++ rest) ≡ read_on place rest
  pub undecided : (count : ℕ) → count ≤ length bytes → extent_at (take count bytes) ≡ Err Truncated

-- ---- what a function of the code gives

-- the most bytes that a codestream may have were read, and they show neither an end nor a fault
pub record IsTooLong (old new : List ℕ) : Type 0 where
  pub read : List ℕ
  pub whole : old ≡ read ++ new
  pub most : length read ≡ most_bytes
  pub undecided : (count : ℕ) → count ≤ length read → extent_at (take count read) ≡ Err Truncated

abbrev pub unless_too_large : NextFault → Type 0 → Type 0
unless_too_large next_fault.TooLarge P = P
unless_too_large next_fault.Io P = ⊤
unless_too_large next_fault.NoMemory P = ⊤

-- If the bytes are known: those of the next codestream, nothing at the end, or the most bytes with neither an end nor a fault.
abbrev pub GivesNext : {X : Type 0} → (X → List ℕ) → Option (List ℕ) → Option (List ℕ) → Result (Option X) NextFault → Type 0
GivesNext view old new result = Tells old → MatchResult result
    (λ next. Tells new × MatchOption next
    ((known old ≡ []) × (known new ≡ []))
    (λ bytes. (known old ≡ view bytes ++ known new) × IsNext (view bytes) (known new)))
    (λ fault. unless_too_large fault (Tells new × IsTooLong (known old) (known new)))
