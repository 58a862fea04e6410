-- How bytes break the grammar of a codestream, as far as markers and segments go: legal parts from the left, and then what breaks the next
-- one.
use Rattle.std.specs.Prelude.{◌≡◌, ◌≢◌, ℕ, suc, ◌+◌, ◌*◌, ◌<◌, ◌≤◌, ◌&&◌, ◌||◌, ◌==◌, not, nat_le, Bool, true, false, if◌then◌else◌, List, [], ◌∷◌, ◌++◌, length, drop, replicate, slice_index, ◌⊎◌, Option, None, Some, Ok, Err}
use Rattle.std.specs.List.{AllByRecursion, list_any}
use Rattle.ls_frame.specs.declared.presets.PresetFault.{PresetFault}
use Rattle.ls_frame.specs.Picture.{most_samples}
use Rattle.ls_frame.specs.Parameters.{Parameters}
use Rattle.ls_bits.specs.Bits.{two_bytes}
use Rattle.ls_bits.specs.Data.{DataAtFront}
use Rattle.ls_stream.specs.declared.faults.StreamFault.{StreamFault}
use Rattle.ls_stream.specs.declared.faults.StreamFault.TheVariants.{Truncated, NotSoi, BadSegment, Unsupported, BadPresets, TooLarge}
use Rattle.ls_stream.specs.declared.faults.What.TheVariants as what
use Rattle.ls_stream.specs.declared.marker.Marker.{Marker}
use Rattle.ls_stream.specs.declared.marker.Marker.TheVariants.{StartOfImage, EndOfImage, StartOfScan, StartOfFrame, PresetParameters, Application, Comment, Other}
use Rattle.ls_stream.specs.Markers.{code_of, IsMarker, marker}
use Rattle.ls_stream.specs.Segments.{segment, field_of, scan_contents}
use Rattle.ls_stream.specs.Grammar.{filled, Miscellaneous, miscellaneous_bytes, MayPrecedeScans, MayFollowScan, last_presets, no_presets, parameters_of}

-- ---- what is due

-- What is due after miscellaneous segments: the frame header; the header of the first component's scan, by the component's identifier; that
-- of a later component's scan; or EOI.
pub data Due : Type 0 where
  frame_header : Due
  first_scan : (id : ℕ) → Due
  next_scan : (id : ℕ) → Due
  end_marker : Due

-- whether a scan came before
abbrev pub is_late : Due → Bool
is_late frame_header = false
is_late (first_scan id) = false
is_late (next_scan id) = true
is_late end_marker = true

-- the miscellaneous segments that may come there
abbrev pub MayStand : Bool → Miscellaneous → Type 0
MayStand false s = MayPrecedeScans s
MayStand true s = MayFollowScan s

-- the fault of SOF55, SOS and EOI where another of them is due
abbrev pub start_of_frame_fault : Due → Option StreamFault
start_of_frame_fault frame_header = None
start_of_frame_fault (first_scan id) = Some BadSegment
start_of_frame_fault (next_scan id) = Some BadSegment
start_of_frame_fault end_marker = Some BadSegment

abbrev pub start_of_scan_fault : Due → Option StreamFault
start_of_scan_fault frame_header = Some BadSegment
start_of_scan_fault (first_scan id) = None
start_of_scan_fault (next_scan id) = None
start_of_scan_fault end_marker = Some BadSegment

abbrev pub end_of_image_fault : Due → Option StreamFault
end_of_image_fault frame_header = Some BadSegment
end_of_image_fault (first_scan id) = Some BadSegment
end_of_image_fault (next_scan id) = Some BadSegment
end_of_image_fault end_marker = None

-- the fault of a marker that may not come there
abbrev pub marker_fault : Due → Marker → Option StreamFault
marker_fault d StartOfImage = Some (Unsupported (what.Marker (code_of StartOfImage)))
marker_fault d EndOfImage = end_of_image_fault d
marker_fault d StartOfScan = start_of_scan_fault d
marker_fault d StartOfFrame = start_of_frame_fault d
marker_fault d PresetParameters = if is_late d then Some (Unsupported what.LseLate) else None
marker_fault d (Application code) = None
marker_fault d Comment = None
marker_fault d (Other code) = Some (Unsupported (what.Marker code))

-- ---- contents

-- A test, and the fault if it fails. Of several checks, the fault of the first that fails.
abbrev pub Check : Type 0
Check = Bool × StreamFault

abbrev pub first_unmet : List Check → Option StreamFault
first_unmet [] = None
first_unmet (check ∷ checks) = if check.0 then first_unmet checks else Some check.1

-- a component whose identifier differs from those before, with sampling factors 1
abbrev pub component_checks : List ℕ → List ℕ → ℕ → List Check → List Check
component_checks before contents place more =
    (not (list_any (λ id. id == slice_index contents place) before), BadSegment)
    ∷ (slice_index contents (place + 1) == 17, Unsupported what.Sampling) ∷ more

abbrev pub size_checks : ℕ → List ℕ → List Check
size_checks count contents = (nat_le (field_of contents 3 * field_of contents 1 * count) most_samples, TooLarge) ∷ []

abbrev pub one_component : List ℕ → List Check
one_component contents = (length contents == 9, BadSegment) ∷ component_checks [] contents 6 (size_checks 1 contents)

abbrev pub three_components : List ℕ → List Check
three_components contents =
    (length contents == 15, BadSegment)
    ∷ component_checks [] contents 6
    (component_checks (slice_index contents 6 ∷ []) contents 9
    (component_checks (slice_index contents 6 ∷ slice_index contents 9 ∷ []) contents 12 (size_checks 3 contents)))

-- the frame header (T.87 C.2.2)
abbrev pub frame_checks : List ℕ → List Check
frame_checks contents =
    (nat_le 6 (length contents), BadSegment)
    ∷ (nat_le 2 (slice_index contents 0) && nat_le (slice_index contents 0) 16, BadSegment)
    ∷ (not (field_of contents 1 == 0), Unsupported what.HeightZero)
    ∷ (not (field_of contents 3 == 0), BadSegment)
    ∷ (slice_index contents 5 == 1 || slice_index contents 5 == 3, Unsupported (what.Components (slice_index contents 5)))
    ∷ (if slice_index contents 5 == 1 then one_component contents else three_components contents)

-- preset parameters (T.87 C.2.4.1.1)
abbrev pub presets_checks : List ℕ → List Check
presets_checks contents =
    (nat_le 1 (length contents), BadSegment)
    ∷ (slice_index contents 0 == 1, Unsupported (what.LseId (slice_index contents 0)))
    ∷ (length contents == 11, BadSegment) ∷ []

-- the header of a scan of a component (T.87 C.2.3)
abbrev pub scan_checks : ℕ → List ℕ → List Check
scan_checks id contents =
    (nat_le 4 (length contents), BadSegment)
    ∷ (slice_index contents 0 == 1, Unsupported what.Interleave)
    ∷ (length contents == 6, BadSegment)
    ∷ (slice_index contents 1 == id, Unsupported what.ScanOrder)
    ∷ (slice_index contents 2 == 0, Unsupported what.Mapping)
    ∷ (slice_index contents 3 == 0, Unsupported what.Near)
    ∷ (slice_index contents 4 == 0, Unsupported what.Interleave)
    ∷ (slice_index contents 5 == 0, Unsupported what.PointTransform) ∷ []

abbrev pub due_checks : Due → List ℕ → List Check
due_checks frame_header contents = frame_checks contents
due_checks (first_scan id) contents = scan_checks id contents
due_checks (next_scan id) contents = scan_checks id contents
due_checks end_marker contents = []

-- the checks of a segment that may come there; a skipped segment has none
abbrev pub contents_checks : Due → Marker → List ℕ → List Check
contents_checks d StartOfImage contents = []
contents_checks d EndOfImage contents = []
contents_checks d StartOfScan contents = due_checks d contents
contents_checks d StartOfFrame contents = due_checks d contents
contents_checks d PresetParameters contents = presets_checks contents
contents_checks d (Application code) contents = []
contents_checks d Comment contents = []
contents_checks d (Other code) contents = []

-- ---- a segment

-- whether a marker has a segment: all supported ones but SOI and EOI
abbrev pub has_segment : Marker → Bool
has_segment StartOfImage = false
has_segment EndOfImage = false
has_segment StartOfScan = true
has_segment StartOfFrame = true
has_segment PresetParameters = true
has_segment (Application code) = true
has_segment Comment = true
has_segment (Other code) = false

-- After a marker that may come there: no length; one below 2; one that is longer than the bytes; contents that fail a check.
pub data BreaksSegment (d : Due) (m : Marker) (bytes : List ℕ) (fault : StreamFault) : Type 0 where
  no_length : length bytes < 2 → fault ≡ Truncated → BreaksSegment d m bytes fault
  bad_length : (n : ℕ) (rest : List ℕ) → bytes ≡ two_bytes n ++ rest → n < 2 → fault ≡ BadSegment → BreaksSegment d m bytes fault
  cut_off : (n : ℕ) (rest : List ℕ) → bytes ≡ two_bytes n ++ rest → 2 ≤ n → length bytes < n → fault ≡ Truncated → BreaksSegment d m bytes fault
  fails : (contents rest : List ℕ) → bytes ≡ (two_bytes (2 + length contents) ++ contents) ++ rest → first_unmet (contents_checks d m contents) ≡ Some fault
      → BreaksSegment d m bytes fault

-- Where a marker is due: the bytes end; no FF; FFs and then 00; a marker that may not come there; or one that may, with a segment that
-- breaks.
pub data BreaksMarker (d : Due) (bytes : List ℕ) (fault : StreamFault) : Type 0 where
  ends : (fill : ℕ) → bytes ≡ replicate fill 255 → fault ≡ Truncated → BreaksMarker d bytes fault
  no_marker : (byte : ℕ) (rest : List ℕ) → bytes ≡ byte ∷ rest → byte ≢ 255 → fault ≡ BadSegment → BreaksMarker d bytes fault
  zero_code : (fill : ℕ) (rest : List ℕ) → bytes ≡ replicate (suc fill) 255 ++ 0 ∷ rest → fault ≡ BadSegment → BreaksMarker d bytes fault
  misplaced : (fill : ℕ) (m : Marker) (rest : List ℕ) → bytes ≡ filled fill (marker m) ++ rest → IsMarker m → marker_fault d m ≡ Some fault → BreaksMarker d bytes fault
  malformed : (fill : ℕ) (m : Marker) (rest : List ℕ) → bytes ≡ filled fill (marker m) ++ rest → IsMarker m → marker_fault d m ≡ None → has_segment m ≡ true → BreaksSegment d m rest fault
      → BreaksMarker d bytes fault

-- after miscellaneous segments
pub record BreaksAfter (d : Due) (bytes : List ℕ) (fault : StreamFault) : Type 0 where
  pub segments : List Miscellaneous
  pub rest : List ℕ
  pub whole : bytes ≡ miscellaneous_bytes segments ++ rest
  pub lawful : AllByRecursion (MayStand (is_late d)) segments
  pub breaks : BreaksMarker d rest fault

-- ---- a codestream

-- SOI is missing
pub data BreaksStart (bytes : List ℕ) (fault : StreamFault) : Type 0 where
  no_byte : bytes ≡ [] → fault ≡ Truncated → BreaksStart bytes fault
  one_byte : bytes ≡ 255 ∷ [] → fault ≡ Truncated → BreaksStart bytes fault
  another_first : (byte : ℕ) (rest : List ℕ) → bytes ≡ byte ∷ rest → byte ≢ 255 → fault ≡ NotSoi → BreaksStart bytes fault
  another_second : (byte : ℕ) (rest : List ℕ) → bytes ≡ 255 ∷ byte ∷ rest → byte ≢ 216 → fault ≡ NotSoi → BreaksStart bytes fault

-- SOI, miscellaneous segments, and a frame header whose contents pass their checks
pub record HasFrame (bytes contents : List ℕ) (before : List Miscellaneous) (rest : List ℕ) : Type 0 where
  pub fill : ℕ
  pub whole : bytes ≡ marker StartOfImage ++ (miscellaneous_bytes before ++ (filled fill (segment StartOfFrame contents) ++ rest))
  pub lawful : AllByRecursion MayPrecedeScans before
  pub passed : first_unmet (frame_checks contents) ≡ None

-- then the header of a scan of the first component
pub record HasScan (bytes contents : List ℕ) (before between : List Miscellaneous) (rest : List ℕ) : Type 0 where
  pub middle : List ℕ
  pub frame : HasFrame bytes contents before middle
  pub fill : ℕ
  pub whole : middle ≡ miscellaneous_bytes between ++ (filled fill (segment StartOfScan (scan_contents (slice_index contents 6))) ++ rest)
  pub lawful : AllByRecursion MayPrecedeScans between

-- The bytes begin with a complete legal opening: all that comes before the data of the first scan, with legal coding parameters.
pub record BeginsWithOpening (bytes : List ℕ) : Type 0 where
  pub contents : List ℕ
  pub before : List Miscellaneous
  pub between : List Miscellaneous
  pub rest : List ℕ
  pub parameters : Parameters
  pub scan : HasScan bytes contents before between rest
  pub parameters_are : parameters_of (slice_index contents 0) (last_presets no_presets (before ++ between)) ≡ Ok parameters

-- the identifiers of the components after the first
abbrev pub later_ids : List ℕ → List ℕ
later_ids contents = if slice_index contents 5 == 1 then [] else slice_index contents 9 ∷ slice_index contents 12 ∷ []

-- the header of the scan of a later component, after miscellaneous segments
pub record HasNextScan (id : ℕ) (bytes rest : List ℕ) : Type 0 where
  pub after : List Miscellaneous
  pub fill : ℕ
  pub whole : bytes ≡ miscellaneous_bytes after ++ (filled fill (segment StartOfScan (scan_contents id)) ++ rest)
  pub lawful : AllByRecursion MayFollowScan after

-- what holds of the bytes after the data at the front
abbrev pub AfterData : List ℕ → (List ℕ → Type 0) → Type 0
AfterData bytes P = (len : ℕ) × DataAtFront bytes len × P (drop len bytes)

-- After the header of a scan: its data, and the scans of the components with these identifiers, up to what breaks.
abbrev pub BreaksScans : List ℕ → List ℕ → StreamFault → Type 0
BreaksScans [] bytes fault = AfterData bytes (λ rest. BreaksAfter end_marker rest fault)
BreaksScans (id ∷ later) bytes fault =
    AfterData bytes (λ rest. BreaksAfter (next_scan id) rest fault ⊎ ((more : List ℕ) × HasNextScan id rest more × BreaksScans later more fault))

-- what breaks before the data of the first scan
pub data BreaksOpening (bytes : List ℕ) (fault : StreamFault) : Type 0 where
  at_start : BreaksStart bytes fault → BreaksOpening bytes fault
  before_frame : (rest : List ℕ) → bytes ≡ marker StartOfImage ++ rest → BreaksAfter frame_header rest fault → BreaksOpening bytes fault
  before_scan : (contents rest : List ℕ) (before : List Miscellaneous) → HasFrame bytes contents before rest → BreaksAfter (first_scan (slice_index contents 6)) rest fault
      → BreaksOpening bytes fault
  bad_presets : (contents rest : List ℕ) (before between : List Miscellaneous) (what : PresetFault) → HasScan bytes contents before between rest
      → parameters_of (slice_index contents 0) (last_presets no_presets (before ++ between)) ≡ Err what → fault ≡ BadPresets what → BreaksOpening bytes fault

-- The markers and segments break with this fault, whatever data the scans have.
pub data Breaks (bytes : List ℕ) (fault : StreamFault) : Type 0 where
  in_opening : BreaksOpening bytes fault → Breaks bytes fault
  in_scans : (contents rest : List ℕ) (before between : List Miscellaneous) → HasScan bytes contents before between rest → BreaksScans (later_ids contents) rest fault
      → Breaks bytes fault
