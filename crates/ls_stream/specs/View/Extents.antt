-- How far the codestream at the front of bytes goes by its markers alone, for a reader that takes one codestream at a time. The contents of
-- segments, and which segments may come where, aren't examined. It is built from the same parts as the outline.
use Rattle.std.specs.Prelude.{◌≡◌, ◌≢◌, ◌⊎◌, ◌↔◌, ℕ, zero, suc, ◌<◌, ◌≤◌, Bool, true, false, List, [], ◌++◌, length, take, Result, Ok, Err, IfOk, IfErr, MatchResult}
use Rattle.ls_frame.specs.Picture.{Picture}
use Rattle.ls_bits.specs.Bits.{AreBytes}
use Rattle.ls_stream.specs.declared.decode.Decoded.{Decoded}
use Rattle.ls_stream.specs.declared.faults.StreamFault.{StreamFault}
use Rattle.ls_stream.specs.declared.faults.StreamFault.TheVariants.{Truncated, Unsupported}
use Rattle.ls_stream.specs.declared.faults.StreamFault.TheVariants as stream_fault
use Rattle.ls_stream.specs.declared.faults.What.TheVariants as what
use Rattle.ls_stream.specs.declared.marker.Marker.{Marker}
use Rattle.ls_stream.specs.declared.marker.Marker.TheVariants.{StartOfImage, EndOfImage, StartOfScan, StartOfFrame, PresetParameters, Application, Comment, Other}
use Rattle.ls_stream.specs.declared.next.NextFault.{NextFault}
use Rattle.ls_stream.specs.declared.next.NextFault.TheVariants as next_fault
use Rattle.ls_stream.specs.Markers.{code_of}
use Rattle.ls_stream.specs.Grammar.{Spells, most_bytes}
use Rattle.ls_stream.specs.Faults.{BeginsWithOpening}
use Rattle.ls_stream.specs.View.Reading.{◌>>=◌, Take, start_at, marker_at, contents_at}
use Rattle.ls_stream.specs.View.Outlines.{after_data, Outline, outline_at, DecodingStops, fault_of, IsFirstFault}

-- ---- markers, segments and data up to EOI

-- the bytes after EOI, or the first fault of the markers
abbrev pub Left : Type 0
Left = Result (List ℕ) StreamFault

-- a segment after its marker, and then `next`
abbrev pub after_segment : (List ℕ → Left) → List ℕ → Left
after_segment next bytes = contents_at bytes >>= λ contents. next contents.1

-- What comes after a marker: nothing after EOI, the header of a scan and its data after SOS, a segment after SOF55, LSE, APPn and COM.
-- Other markers aren't supported.
unfoldable pub after_any : (List ℕ → Left) → Marker → List ℕ → Left
after_any again StartOfImage bytes = Err (Unsupported (what.Marker (code_of StartOfImage)))
after_any again EndOfImage bytes = Ok bytes
after_any again StartOfScan bytes = after_segment (λ stuffed. again (after_data stuffed)) bytes
after_any again StartOfFrame bytes = after_segment again bytes
after_any again PresetParameters bytes = after_segment again bytes
after_any again (Application code) bytes = after_segment again bytes
after_any again Comment bytes = after_segment again bytes
after_any again (Other code) bytes = Err (Unsupported (what.Marker code))

-- Segments and scans in any order, at most `most` of them, up to EOI. The number of bytes is always enough.
unfoldable pub segments_within : ℕ → List ℕ → Left
segments_within zero bytes = Err Truncated
segments_within (suc most) bytes = marker_at bytes >>= λ next. after_any (segments_within most) next.0 next.1

unfoldable pub segments_at : List ℕ → Left
segments_at bytes = segments_within (length bytes) bytes

-- SOI, and then segments and scans up to EOI
unfoldable pub extent_at : List ℕ → Left
extent_at bytes = start_at bytes >>= segments_at

-- ---- the next codestream

-- The bytes of the next codestream, and those after it: the fewest that show by their markers where it ends or what breaks it, or all bytes
-- if they show neither.
pub record IsNext (bytes rest : List ℕ) : Type 0 where
  pub some : 0 < length bytes
  pub short : length bytes ≤ most_bytes
  -- fewer of them show neither
  pub least : (count : ℕ) → count < length bytes → extent_at (take count bytes) ≡ Err Truncated
  -- they do, or the input ends with them
  pub enough : (extent_at bytes ≢ Err Truncated) ⊎ (rest ≡ [])
  -- if they are read to EOI, it is their end
  pub to_end : (left : List ℕ) → extent_at bytes ≡ Ok left → left ≡ []

-- what was read of a front of bytes, with the bytes after the front left too
abbrev pub with_left : {X : Type 0} → List ℕ → Take X → Take X
with_left rest (Ok found) = Ok (found.0, found.1 ++ rest)
with_left rest (Err fault) = Err fault

-- Fewer bytes than a codestream may have, which show neither an end nor a fault by their markers.
abbrev pub IsUndecided : List ℕ → Type 0
IsUndecided bytes = (length bytes < most_bytes) × (extent_at bytes ≡ Err Truncated)

-- As many bytes as a codestream may have, which show neither.
abbrev pub IsEndless : List ℕ → Type 0
IsEndless bytes = (length bytes ≡ most_bytes) × (extent_at bytes ≡ Err Truncated)

-- the first of these bytes are so
abbrev pub BeginsEndless : List ℕ → Type 0
BeginsEndless bytes = IsEndless (take most_bytes bytes)

-- ---- faults

-- Decoding bytes stops with this fault. TooLarge stands for Truncated if there are more bytes than a codestream may have.
abbrev pub StopsWith : List ℕ → StreamFault → Type 0
StopsWith bytes fault = (cause : StreamFault) × (fault ≡ fault_of bytes cause) × DecodingStops (take most_bytes bytes) cause

-- What decoding bytes returns: the frame of the codestream at their front, and the length of that; or their first fault; or NoMemory, only
-- if they begin with a complete legal opening.
pub record IsDecoding (bytes : List ℕ) (result : Result Decoded StreamFault) : Type 0 where
  pub ok : IfOk result (λ decoded. (decoded.used ≤ length bytes) × Spells (take decoded.used bytes) decoded.frame)
  pub first : IfErr result (λ fault. (fault ≡ stream_fault.NoMemory) ⊎ IsFirstFault bytes fault)
  pub complete : (front rest : List ℕ) (f : Picture) → bytes ≡ front ++ rest → Spells front f
      → MatchResult result (λ decoded. (decoded.frame ≡ f) × (decoded.used ≡ length front)) (λ fault. fault ≡ stream_fault.NoMemory)
  pub memory : IfErr result (λ fault. fault ≡ stream_fault.NoMemory → BeginsWithOpening (take most_bytes bytes))

-- The result is that of decoding the next codestream of these bytes.
pub record IsDecodingOfNext (bytes : List ℕ) (result : Result Decoded StreamFault) : Type 0 where
  pub codestream : List ℕ
  pub rest : List ℕ
  pub split : bytes ≡ codestream ++ rest
  pub is_next : IsNext codestream rest
  pub decoding : IsDecoding codestream result

-- Two results of decoding are alike: the same frame and the same length of its codestream, or the same fault; or at least one is NoMemory.
abbrev pub AreAlike : Result Decoded StreamFault → Result Decoded StreamFault → Type 0
AreAlike (Ok one) (Ok other) = (one.frame ≡ other.frame) × (one.used ≡ other.used)
AreAlike (Ok one) (Err fault) = fault ≡ stream_fault.NoMemory
AreAlike (Err fault) (Ok other) = fault ≡ stream_fault.NoMemory
AreAlike (Err fault) (Err other) = (fault ≡ stream_fault.NoMemory) ⊎ (other ≡ stream_fault.NoMemory) ⊎ (fault ≡ other)

-- whether a read failed
abbrev pub is_io : NextFault → Bool
is_io next_fault.TooLarge = false
is_io next_fault.Io = true
is_io next_fault.NoMemory = false

abbrev pub failed_feed : {X : Type 0} → Result X NextFault → Bool
failed_feed (Ok x) = false
failed_feed (Err fault) = is_io fault

-- ---- laws

-- A codestream of a frame is read to its end, whatever follows it.
abbrev pub SpellingsHaveExtents : Type 0
SpellingsHaveExtents = (front rest : List ℕ) (f : Picture) → Spells front f → extent_at (front ++ rest) ≡ Ok rest

-- If an outline is read, its extent is too, and leaves the same bytes; if the bytes are too few for the outline, they are too few for the
-- extent.
abbrev pub OutlinesHaveExtents : Type 0
OutlinesHaveExtents = (bytes rest : List ℕ) (o : Outline) → outline_at bytes ≡ Ok (o, rest) → extent_at bytes ≡ Ok rest

abbrev pub TooFewForBoth : Type 0
TooFewForBoth = (bytes : List ℕ) → outline_at bytes ≡ Err Truncated → extent_at bytes ≡ Err Truncated

-- There is one next codestream.
abbrev pub OneIsNext : Type 0
OneIsNext = (bytes rest other left : List ℕ) → IsNext bytes rest → IsNext other left → bytes ++ rest ≡ other ++ left → bytes ≡ other

-- The next codestream has the same first fault as all bytes from it on.
abbrev pub NextHasTheFirstFault : Type 0
NextHasTheFirstFault = (bytes rest : List ℕ) → AreBytes (bytes ++ rest) → IsNext bytes rest → (fault : StreamFault) → IsFirstFault bytes fault ↔ IsFirstFault (bytes ++ rest) fault

-- Decoding the next codestream stops where decoding all bytes from it on stops.
abbrev pub NextStopsAlike : Type 0
NextStopsAlike = (bytes rest : List ℕ) → IsNext bytes rest → (fault : StreamFault) → StopsWith bytes fault ↔ StopsWith (bytes ++ rest) fault
